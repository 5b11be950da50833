pub mod Fields
pub mod Attribute
