pub mod LossyPoints
pub mod Delivery
pub mod Queue
pub mod Laws
