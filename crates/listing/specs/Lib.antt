-- What the code's answers are, in the paper's terms, and what it tests.
pub mod Searches
pub mod Sums
