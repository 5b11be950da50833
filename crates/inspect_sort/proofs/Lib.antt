-- What callers cite: what a line is taken for goes by its first 32,769 bytes; a line that is taken for a question asks it; and examples.
pub mod Blind
pub mod Asked
pub mod Rows
