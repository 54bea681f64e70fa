pub mod Views
pub mod Ready
pub mod Painting
