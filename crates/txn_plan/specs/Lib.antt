pub mod Covers
pub mod Needs
pub mod Changes
pub mod Forgetting
