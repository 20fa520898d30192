pub mod Answers
pub mod Drafts
pub mod Fits
pub mod Sections
