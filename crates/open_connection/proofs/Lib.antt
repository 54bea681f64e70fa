pub mod Hearings
pub mod Keeping
pub mod Packets
pub mod Changing
