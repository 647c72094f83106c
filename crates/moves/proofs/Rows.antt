pub mod Puts
pub mod Ends
pub mod Degrees
pub mod Sets
pub mod Splits
