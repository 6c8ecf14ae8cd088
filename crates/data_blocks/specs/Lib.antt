pub mod Bitmap
pub mod Held
pub mod Kept
