pub mod Coming
pub mod Grammar
pub mod Lookup
pub mod Marks
pub mod Reading
pub mod Steps
