pub mod Layout
pub mod Field
pub mod Node
pub mod Card
pub mod Fits
