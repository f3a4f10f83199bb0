pub mod Cutting
pub mod Found
pub mod Operation
pub mod Several
pub mod Copies
pub mod Moved
pub mod Calls
