-- The laws of the steps through the input: it does not matter how it is cut into pieces.
-- `take_step` and the console cite them; the examples show what the definitions say.
pub mod Pieces
mod Examples
