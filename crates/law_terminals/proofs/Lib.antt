-- The theorems: Two (two terminals), Runs (the same of the program's own calls), Last (the tower). Example computes orders of both
-- kinds, and the race of the sample (Race). The others are what these cite.
mod Generic
pub mod Owned
mod Folds
pub mod Named
pub mod Stored
pub mod Written
pub mod Given
pub mod Orders
pub mod Two
pub mod Runs
pub mod Last
mod Race
mod Example
