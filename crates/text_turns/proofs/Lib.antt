-- What callers cite.
pub mod Turns
pub mod Uncut
pub mod Numbers
pub mod Loop
pub mod Turning
pub mod Answers
