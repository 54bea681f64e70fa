pub mod DeliveryLemmas
pub mod QueueLemmas
