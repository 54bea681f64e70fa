pub mod Attached
pub mod Delivered
pub mod Numbered
pub mod Steps
pub mod Owed
pub mod Keeping
pub mod Owing
pub mod Numbering
