pub mod Examples
pub mod Written
pub mod Lengths
pub mod Shown
pub mod Points
pub mod Encodings
pub mod Vectors
pub mod Rows
