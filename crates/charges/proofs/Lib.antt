pub mod Lists
pub mod FormulaTerms
mod PairLists
pub mod Gathering
mod Finishing
mod Nexts
pub mod WorkedFigures
