-- How many rows the tables have, as facts.
pub mod Counts
