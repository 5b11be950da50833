-- What the functions' proofs cite; what callers may is pub.
pub mod Tests
pub mod Plans
pub mod Serves
pub mod Left
pub mod Ready
pub mod Fits
pub mod Accepted
pub mod ReadLaws
pub mod Codes
pub mod Same
mod Walks
pub mod Frame
pub mod Causes
pub mod Rights
