-- The laws of the list and of its search, for any number of cells and any test; and what the functions' proofs cite.
pub mod Listed
pub mod Lengths
pub mod Searched
pub mod Tests
mod Choosing
mod Find
mod Seeking
mod Sweeping
mod Linked
