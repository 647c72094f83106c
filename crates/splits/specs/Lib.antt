pub mod Promises
pub mod Between
