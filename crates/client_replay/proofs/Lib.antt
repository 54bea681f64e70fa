pub mod Missing
pub mod Clips
pub mod Draws
pub mod ReplayLemmas
pub mod Going
pub mod HelloLemmas
pub mod PeerLemmas
pub mod BayLemmas
