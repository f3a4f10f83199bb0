pub mod Mark
pub mod Spans
pub mod Changes
pub mod Runs
pub mod Starts
