-- What a line comes to, by what it is taken for. What callers cite: that inspection is blind beyond a line's size, when it is dead, and the
-- theorem of a whole text.
mod Looks
pub mod Blind
pub mod Dead
pub mod Theorem
