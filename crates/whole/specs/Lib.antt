-- What each slot's write tells past the rules of sheet and page, and what page and notes hold after some of them.
pub mod Slots
