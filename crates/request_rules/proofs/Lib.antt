-- What the proofs of this crate and callers cite.
pub mod Lent
pub mod Long
