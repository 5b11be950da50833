pub mod Laws
mod Kept
mod Turns
mod Walk
