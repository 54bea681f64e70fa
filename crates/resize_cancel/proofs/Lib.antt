pub mod ReliefLemmas
pub mod DeliveryLemmas
