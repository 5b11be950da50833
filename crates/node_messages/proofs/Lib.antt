-- What callers cite: laws of numbers one after the other.
pub mod NumberLaws
-- How a message is written, and what a reader takes.
pub mod Writes
pub mod Takes
-- Written and read, read and written.
pub mod Round
pub mod Beyond
-- Examples.
pub mod Rows
