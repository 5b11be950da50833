-- The laws: Own (the program's read and write), Library (those of the library), Lines (request lines).
pub mod Kept
pub mod Own
pub mod Library
pub mod Lines
