pub mod Painting
pub mod Validity
pub mod Faults
pub mod Kept
pub mod Text
pub mod Generated
pub mod Stage
pub mod Laws
