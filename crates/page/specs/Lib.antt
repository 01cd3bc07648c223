-- What a write of a slot tells in the steps in which the code finds it.
pub mod Steps
