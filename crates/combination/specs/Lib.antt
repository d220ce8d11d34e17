pub mod Reading
pub mod Listed
pub mod Judged
pub mod Parts
pub mod Texts
pub mod Replies
