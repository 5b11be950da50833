-- What callers cite, and what this crate's proofs share.
pub mod Rows
pub mod LaneLaws
mod BlockLaws
mod RecordLaws
