pub mod Promise
pub mod Lines
pub mod Library
