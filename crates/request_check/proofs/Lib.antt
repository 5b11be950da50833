pub mod Rows
-- The laws of the definitions: what the functions' proofs cite, and what callers may.
mod Cases
mod Steps
mod Bounds
mod Walks
pub mod Laws
