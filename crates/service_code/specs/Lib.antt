pub mod Code
pub mod Limit
