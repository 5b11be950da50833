-- What callers cite.
pub mod Stages
pub mod Pulls
pub mod Writes
pub mod Slurps
