-- The laws of sheets: what the verdict says, and the words of a message.
pub mod Tests
pub mod Verdicts
pub mod Odd
pub mod Calls
pub mod Messages
