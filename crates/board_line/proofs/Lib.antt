-- What callers cite, and what this crate's proofs share.
pub mod Refreshes
pub mod Rows
mod TextLaws
