pub mod Deed
pub mod Lane
