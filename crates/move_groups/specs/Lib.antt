pub mod Between
pub mod Props
