-- How long the rooms are.
-- The rooms' own functions cite it.
mod Rooms
