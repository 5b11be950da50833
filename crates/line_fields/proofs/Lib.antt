-- What callers cite.
pub mod Said
mod Spelled
