pub mod Basis
pub mod Beside
pub mod Figured
