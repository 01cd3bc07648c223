-- The laws of labels and lists.
-- The functions' proofs cite them.
pub mod Answers
