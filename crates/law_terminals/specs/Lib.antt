pub mod Orders
pub mod Two
pub mod Last
pub mod Runs
