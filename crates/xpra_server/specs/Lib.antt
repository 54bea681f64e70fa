pub mod DryClient
pub mod Words
pub mod Read
pub mod Texts
pub mod Report
pub mod Statuses
