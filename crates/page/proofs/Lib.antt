-- The laws of a page's calls: how the code meets the rules.
pub mod Slots
