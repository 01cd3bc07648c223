-- What the code looks for in the rows of G1 and G0.
pub mod Identities
