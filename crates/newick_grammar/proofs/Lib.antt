pub mod Labels
pub mod Low
pub mod Rooted
pub mod Writes
pub mod Valid
