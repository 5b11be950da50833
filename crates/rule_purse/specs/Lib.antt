pub mod Purse
pub mod Bytes
