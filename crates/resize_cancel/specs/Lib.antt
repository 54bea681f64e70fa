pub mod Cancelled
pub mod Delivery
pub mod Laws
