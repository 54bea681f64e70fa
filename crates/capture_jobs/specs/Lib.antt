pub mod Planning
pub mod Captured
pub mod Jobs
pub mod Laws
