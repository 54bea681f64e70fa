pub mod Rising
pub mod Walked
pub mod InOrder
