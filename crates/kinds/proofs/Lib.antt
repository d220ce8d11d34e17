mod Asked
mod Same
mod ByHand
pub mod Named
