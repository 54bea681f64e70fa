pub mod Session
pub mod Painting
pub mod Ending
