pub mod Counts
pub mod LineLaws
