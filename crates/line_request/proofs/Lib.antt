-- What callers cite.
pub mod Asking
pub mod Rows
