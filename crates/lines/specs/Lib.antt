pub mod Lines
pub mod Plain
pub mod Between
pub mod Room
