-- What a line asks for, by a table of names and shapes, and where its arguments stand.
pub mod Shapes
pub mod Lines
pub mod Arguments
