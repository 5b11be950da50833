-- What callers cite: that a question which was read has what it wants in its line; what comes of a test; and examples.
pub mod Asking
pub mod Tests
pub mod Rows
