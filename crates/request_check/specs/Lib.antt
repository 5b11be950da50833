pub mod Row
pub mod Check
pub mod Walk
