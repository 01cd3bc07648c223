-- The laws of columns: how they come about, a row after another, and that their sums are products with all rows.
pub mod Summed
pub mod Adding
