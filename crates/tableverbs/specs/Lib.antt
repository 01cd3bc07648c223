-- The calls that build a sheet of tables and give them back, by the numbers of their lines.
pub mod Tabling
