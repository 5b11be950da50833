-- What callers cite, and what this crate's proofs share.
pub mod Refreshing
