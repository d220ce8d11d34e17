pub mod Flats
pub mod PerLine
pub mod FlatTerms
