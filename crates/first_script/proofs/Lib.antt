pub mod Desks
pub mod Digits
pub mod Lines
pub mod Steps
pub mod Scripts
pub mod Faults
mod Examples
