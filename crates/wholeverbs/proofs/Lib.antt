-- The law of a line's whole page and records that are clipped.
-- The functions' proofs cite it.
mod Clipped
