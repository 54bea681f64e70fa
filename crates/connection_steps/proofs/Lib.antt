pub mod Bytes
pub mod Hearing
pub mod Sending
pub mod Greeting
pub mod Changing
pub mod Rest
pub mod Clear
