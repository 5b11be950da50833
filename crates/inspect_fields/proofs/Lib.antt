-- Examples; and what callers cite, what a question has in field 1.
pub mod Rows
pub mod Lines
