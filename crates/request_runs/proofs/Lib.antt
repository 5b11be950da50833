-- What the proofs cite; what callers may is pub.
pub mod Named
mod RunLaws
mod Carried
mod Walking
pub mod Steps
pub mod WalkSteps
pub mod OwnRuns
