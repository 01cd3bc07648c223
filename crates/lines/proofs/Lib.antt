-- The laws of shapes and of lines.
-- The functions' proofs cite them; `asked-stands`, `asked-held` and `records-fit` are for the crates above.
pub mod Shapes
pub mod Lines
