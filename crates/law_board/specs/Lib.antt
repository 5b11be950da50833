pub mod Redraw
pub mod Library
