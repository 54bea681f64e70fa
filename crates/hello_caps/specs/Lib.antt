pub mod Answers
pub mod Capabilities
pub mod Replies
pub mod Table
