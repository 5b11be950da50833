-- The theorems, and what is cited beside them: Systems (a request without its card), Many, Spares, Served, Owners.
pub mod Theorems
pub mod Systems
pub mod Many
pub mod Spares
pub mod Served
pub mod Owners
pub mod Judged
-- What they stand on.
mod Shifted
mod Rows
mod Walks
mod Places
mod Example
