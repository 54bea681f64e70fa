pub mod Drawing
pub mod Generator
pub mod Desktop
pub mod Geometry
pub mod Laws
