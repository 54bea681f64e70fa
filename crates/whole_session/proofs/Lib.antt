pub mod Desktops
pub mod Lines
pub mod Endings
