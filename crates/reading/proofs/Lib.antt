-- The laws behind reading: which words break rule 10, what the search finds, and what every read does first.
mod Breaches
mod Searching
mod Judging
