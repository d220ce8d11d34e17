pub mod Form
pub mod Root
pub mod Cells
pub mod First
pub mod Held
pub mod Answers
pub mod Laws
