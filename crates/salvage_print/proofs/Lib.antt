-- What callers cite: where there is room for what is put, and what a line leaves of image and report.
pub mod Spots
pub mod Turns
