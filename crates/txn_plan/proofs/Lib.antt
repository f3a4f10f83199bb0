pub mod Covering
pub mod Leasts
pub mod Judging
pub mod Needing
pub mod Changed
pub mod Unmapping
pub mod Rights
