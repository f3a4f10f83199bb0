pub mod Grammars
pub mod HexPairs
pub mod LineLists
pub mod Numerals
pub mod OneValue
pub mod Passing
pub mod SpelledBytes
pub mod WordLists
