pub mod Histories
pub mod Families
pub mod Shown
pub mod Bits
pub mod Told
pub mod Theorem
