pub mod Histories
pub mod Caches
pub mod Answers
pub mod Shown
pub mod Steps
