-- The write of a whole page, by the numbers of its line.
pub mod Wholes
