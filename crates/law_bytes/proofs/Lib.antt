-- The laws of a card's bytes: fields apart from each other, what is written is read back, no other place is read; which cards fit them, what
-- calls on them leave, and that other bytes are refused.
mod Fields
mod Places
mod Records
pub mod Round
pub mod Used
pub mod Fitting
pub mod Left
pub mod Refused
