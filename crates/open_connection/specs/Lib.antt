pub mod Connection
pub mod Reading
pub mod Changing
pub mod Sending
pub mod Laws
pub mod Clear
pub mod Drawing
