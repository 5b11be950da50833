pub mod Request
pub mod Plan
pub mod Serve
