-- What a line lends, by its numbers.
pub mod Lent
