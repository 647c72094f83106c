pub mod Edits
pub mod Kept
pub mod Fitting
