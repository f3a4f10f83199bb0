pub mod Solo
pub mod Commands
pub mod VictimText
pub mod ImageAnswers
pub mod Endings
pub mod Statuses
