pub mod Between
pub mod Search
