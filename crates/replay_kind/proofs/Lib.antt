-- What callers cite: what a line is taken for goes by its first 32,769 bytes; and examples.
pub mod Blind
pub mod Rows
