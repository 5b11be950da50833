-- The laws: Redraw (a refresh shows what was written last), Library (the same of the library), Calls (what is promised of the program's
-- line and of the library's call).
pub mod Redraw
pub mod Library
pub mod Calls
pub mod Example
