pub mod Walks
pub mod Steps
pub mod SameParts
pub mod Leaving
