pub mod Used
pub mod Eight
