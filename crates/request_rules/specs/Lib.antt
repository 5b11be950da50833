pub mod Lens
pub mod Rules
