-- What fields written one after the other leave.
pub mod Puts
-- What a card's header says.
pub mod Heads
-- How the loop of `decode` goes over the records.
mod DecodeTurns
-- How a record is written, and how the loop of `encode` goes over the records.
mod Writes
mod EncodeTurns
