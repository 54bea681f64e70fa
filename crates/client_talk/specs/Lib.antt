pub mod Talked
pub mod Handling
pub mod Marks
pub mod Mapped
pub mod Kept
pub mod Laws
