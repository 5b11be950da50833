pub mod Part
pub mod Sizes
pub mod Word
pub mod Half
pub mod Values
pub mod Letters
