pub mod Sums
pub mod RootLaws
pub mod Laws
pub mod Tables
pub mod Fill
pub mod Firsts
