-- What the private functions of the elimination say of the rows that they keep, and why a target may have no choice.
pub mod Kept
pub mod Evidence
