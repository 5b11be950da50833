pub mod Told
pub mod More
