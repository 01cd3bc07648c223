-- The laws of built sheets.
pub mod Rows
pub mod Formulas
pub mod Sizes
pub mod Admitted
