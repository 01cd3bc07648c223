-- What an admitted sheet is, as facts.
pub mod Sound
