-- The laws of records: in one list after another, what they say, that they are gathered record by record, and what one more changes in what the slots of a run gather to.
pub mod Lists
pub mod Said
pub mod Steps
pub mod Gathers
pub mod Passes
