pub mod InHand
pub mod Filing
pub mod Kept
pub mod Laws
