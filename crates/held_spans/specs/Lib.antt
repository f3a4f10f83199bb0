pub mod Spans
pub mod Walks
pub mod Runs
pub mod Resizing
pub mod Pieces
pub mod Listing
pub mod Gaps
