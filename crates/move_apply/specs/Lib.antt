pub mod Resizing
pub mod Growing
pub mod Pieces
pub mod Staying
pub mod Remapping
pub mod Relocating
