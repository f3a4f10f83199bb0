pub mod Leasts
pub mod Told
pub mod Passed
pub mod Gaping
pub mod Ongoing
pub mod Placed
pub mod Piling
pub mod Moved
