pub mod Admit
pub mod Order
pub mod Placed
