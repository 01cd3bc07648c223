-- The laws behind writing: which stuck cells break rule 8, and which words fit.
pub mod Breaches
mod Fits
