-- The verbs, and what each answers.
pub mod Replies
