pub mod Log
pub mod Stale
pub mod Traces
pub mod Agreement
pub mod Times
pub mod Rest
pub mod DrawnOut
pub mod Laws
