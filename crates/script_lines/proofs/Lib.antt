pub mod Digits
pub mod TextLemmas
pub mod PlacesLemmas
pub mod RangesLemmas
pub mod FormsLemmas
