-- The theorems are in Resend. Example computes a write that does no harm, and those that do. The others are what these cite.
mod ByKind
mod Stores
pub mod Resend
mod Example
