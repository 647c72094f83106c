pub mod Moves
pub mod Groups
pub mod Named
pub mod Verdicts
pub mod Cases
pub mod Between
