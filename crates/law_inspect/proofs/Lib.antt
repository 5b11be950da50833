-- The laws: Looks (an `L` line shows the store as it stands, and what writes nothing), Later (no line after the first makes a new card),
-- Shows (a lane is shown as it was brought last). Example computes one.
pub mod Looks
mod Later
pub mod Shows
mod Example
