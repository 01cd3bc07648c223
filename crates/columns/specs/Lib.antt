-- What the functions on columns say of them.
pub mod Columns
