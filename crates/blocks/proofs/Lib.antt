-- The laws of rows in blocks and of tables.
pub mod Lists
pub mod Blocks
pub mod Columns
pub mod Counts
