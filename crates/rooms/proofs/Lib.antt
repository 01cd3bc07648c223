-- The laws of a line's page and records in a room, and of rooms of which a part is lent.
-- The functions' proofs cite them.
pub mod Lists
pub mod Rooms
