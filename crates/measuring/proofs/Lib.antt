-- The laws behind the measurements: which caps pass, and what the searches find.
pub mod Caps
mod Searching
