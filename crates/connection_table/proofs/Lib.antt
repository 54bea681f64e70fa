pub mod Slots
pub mod Keeping
pub mod Next
pub mod Ends
