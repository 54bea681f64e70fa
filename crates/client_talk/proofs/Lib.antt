pub mod Handled
pub mod Listening
pub mod Bytes
pub mod Marking
pub mod Greeting
