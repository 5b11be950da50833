-- Rooms, what becomes of a text in them, and what a run has come to.
mod Rooms
mod Ends
mod Runs
