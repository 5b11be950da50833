pub mod Element
pub mod Read
pub mod Unpacked
