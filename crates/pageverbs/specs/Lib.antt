-- The calls on a page, by the numbers of their lines.
pub mod Pages
