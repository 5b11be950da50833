-- Packets one after the other, their flag and their end.
pub mod Among
pub mod Packets
-- How a packet is gathered.
mod Gathering
mod Told
-- What a card answers.
pub mod Answered
pub mod Back
pub mod Free
-- Examples.
pub mod Rows
