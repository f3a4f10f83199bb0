pub mod Starting
pub mod Ending
pub mod Opening
pub mod Leaving
pub mod Telling
pub mod Committed
