mod Judged
-- What the calls' proofs cite.
mod Answers
pub mod Accepted
