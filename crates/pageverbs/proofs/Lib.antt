-- The law of pages and records that are too many.
-- The functions' proofs cite it.
mod Crowded
