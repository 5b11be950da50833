-- What callers cite: laws of parts, of stores one after the other, of tests, of signs, and of numbers of 16 bits.
pub mod Part
pub mod Put
pub mod Tests
pub mod Laws
pub mod Halves
