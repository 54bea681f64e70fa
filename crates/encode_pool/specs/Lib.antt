pub mod Finished
pub mod Board
pub mod Working
pub mod Counting
pub mod QueueRule
pub mod Passes
pub mod MemBoard
