pub mod Question
pub mod Answer
pub mod Answers
pub mod Rooms
