pub mod Through
pub mod Reading
pub mod Writing
pub mod Drawing
pub mod Rounds
pub mod Settled
