pub mod Tree
pub mod Lists
pub mod Splits
pub mod Editions
pub mod Refusals
