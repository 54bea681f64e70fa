pub mod Places
pub mod Counts
pub mod ExactPeers
pub mod Peers
pub mod TapeLemmas
