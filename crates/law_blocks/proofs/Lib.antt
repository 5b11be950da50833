-- The laws: Holding (what a block of a random store holds, and what leaves it so), Lane (a refresh shows it).
pub mod Holding
pub mod Growing
pub mod Lane
