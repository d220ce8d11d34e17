pub mod Faults
pub mod Numbers
pub mod Sizes
pub mod Standing
pub mod Replacing
