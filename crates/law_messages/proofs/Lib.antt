-- Codes and ends of a sound card are numbers of 16 bits.
pub mod Coded
-- What is told is read back.
pub mod Back
-- The flag, and following it.
pub mod More
pub mod Follow
