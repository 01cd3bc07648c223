-- No laws: a verb's answer computes.
-- The examples show it.
mod Examples
