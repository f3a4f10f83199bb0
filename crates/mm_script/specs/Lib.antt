pub mod CallLine
pub mod CallNames
pub mod Reading
pub mod ScriptText
