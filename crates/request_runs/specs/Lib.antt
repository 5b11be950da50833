pub mod Runs
pub mod Staged
pub mod Own
pub mod Ready
