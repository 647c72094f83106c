pub mod Job
pub mod Runs
pub mod Sound
pub mod Steps
pub mod Between
