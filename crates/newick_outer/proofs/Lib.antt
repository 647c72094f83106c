pub mod OuterLaws
pub mod Starts
pub mod WholeLaws
