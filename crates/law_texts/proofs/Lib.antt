-- The theorems: Lines (of a state between two lines), Texts (of whole texts). Example computes lines of both, and a line that stands
-- again. The others are what these cite.
mod States
mod Records
pub mod Lines
pub mod Texts
mod Example
