pub mod PointSets
pub mod Bands
pub mod Combinations
pub mod BitRows
pub mod Bounding
pub mod Making
pub mod Sweeping
pub mod BandLaws
