pub mod Colour
pub mod PixelBytes
pub mod Decoded
pub mod Encoding
pub mod Laws
pub mod Rows
