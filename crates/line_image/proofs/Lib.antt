-- What callers cite, and worked lines.
pub mod Lines
pub mod Rows
