-- The laws of the definitions. Those that only the proofs of this crate cite are private.
pub mod Places
pub mod Ascend
mod Next
mod Bitmap
