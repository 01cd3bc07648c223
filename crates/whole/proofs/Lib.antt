-- The laws of a whole page: the writes slot after slot, and that they are the single writes.
pub mod Turns
pub mod Singly
pub mod Stops
pub mod Clipped
