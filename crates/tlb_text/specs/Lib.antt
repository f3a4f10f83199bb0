pub mod EventNames
pub mod EventText
