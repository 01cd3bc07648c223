-- What the records of one slot gather to, as the code has it; and how many slots are gathered in one pass.
pub mod Gather
pub mod Runs
