pub mod Clipping
pub mod Hellos
pub mod PeerKept
pub mod PeerSteps
pub mod Peers
pub mod Replaying
pub mod Steps
