pub mod Digits
pub mod Grammar
pub mod Layout
pub mod Passing
pub mod Printed
pub mod Spelling
