pub mod Painting
pub mod Validity
pub mod Laws
pub mod Text
pub mod Forms
pub mod Reading
