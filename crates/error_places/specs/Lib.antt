pub mod Bitmap
