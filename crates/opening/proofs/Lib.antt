-- What every call on a page does first.
pub mod Judging
pub mod Crowded
