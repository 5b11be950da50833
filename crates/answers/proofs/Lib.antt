-- What callers cite.
pub mod Cause
