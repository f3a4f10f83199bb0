pub mod Cells
pub mod Held
pub mod Views
pub mod Changes
pub mod Moving
pub mod Longest
pub mod Buffers
pub mod Walking
