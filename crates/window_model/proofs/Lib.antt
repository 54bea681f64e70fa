pub mod Places
pub mod Drawings
pub mod Points
pub mod Windows
pub mod Desktops
mod Examples
