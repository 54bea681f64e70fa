pub mod Weights
pub mod Changed
pub mod Orders
pub mod Relieved
