pub mod Outgoing
pub mod Sending
pub mod Reliefs
pub mod Laws
