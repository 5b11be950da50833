-- The rule in each of its cases, which only the proofs here cite; Again is for callers.
mod Ring
pub mod Again
