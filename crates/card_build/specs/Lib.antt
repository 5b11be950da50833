pub mod Card
pub mod Grow
pub mod Build
