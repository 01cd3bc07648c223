-- The laws of the tables that stand in a sheet.
pub mod Back
pub mod Shape
