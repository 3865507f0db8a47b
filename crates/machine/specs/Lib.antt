-- What the machine answers.
pub mod Plan
pub mod Answers
pub mod Numbers
pub mod Steps
