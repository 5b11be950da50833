pub mod Numbers
pub mod Message
pub mod CodeList
pub mod Information
pub mod Kept
