pub mod Listing
pub mod Between
