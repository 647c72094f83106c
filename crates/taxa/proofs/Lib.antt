pub mod Bools
pub mod Sets
pub mod Sizes
pub mod Unions
pub mod Words
