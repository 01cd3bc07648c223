-- The answers to the whole input.
pub mod Talk
