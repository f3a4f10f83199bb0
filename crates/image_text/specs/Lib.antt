pub mod Items
pub mod Images
pub mod ImageText
pub mod Reading
