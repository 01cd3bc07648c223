-- What a table of marks tells. No contract of a call on a sheet cites it.
pub mod Marks
