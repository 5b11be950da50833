pub mod AsBefore
-- Examples.
pub mod Rows
