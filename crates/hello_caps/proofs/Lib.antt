pub mod ByForm
pub mod ByKey
pub mod LastPairs
pub mod Layered
pub mod Spellings
pub mod Texts
