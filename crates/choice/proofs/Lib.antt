mod LifeLines
pub mod Same
