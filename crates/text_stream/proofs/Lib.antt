-- What callers cite: whole texts, bytes up to a LF, what `feed` leaves, what is printed, and what a program has come to that stops.
pub mod Whole
pub mod Steps
pub mod Feeding
pub mod Prints
pub mod Histories
mod Rows
