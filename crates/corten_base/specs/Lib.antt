pub mod Bytes
pub mod Body
pub mod Permissions
pub mod Pages
pub mod Outside
pub mod Memory
