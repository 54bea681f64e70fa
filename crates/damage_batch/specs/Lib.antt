pub mod Delay
pub mod Pending
pub mod Delivery
pub mod Laws
