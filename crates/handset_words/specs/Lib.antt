pub mod Outcome
pub mod Kept
pub mod Told
pub mod Message
pub mod Checked
pub mod Reply
pub mod Block
pub mod Board
