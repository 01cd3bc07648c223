-- The laws of chains of refusals: every call's order goes by them.
pub mod Rules
pub mod Chains
pub mod Stages
pub mod Reasons
pub mod Both
pub mod Rooms
