-- Tables as one record, and the rows of a built sheet, one by one.
pub mod Handed
pub mod Rows
