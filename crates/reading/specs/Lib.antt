-- What only private functions' contracts speak of.
pub mod Steps
