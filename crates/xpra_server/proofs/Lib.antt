pub mod Scripts
pub mod Tops
pub mod Endings
pub mod WordsLemmas
