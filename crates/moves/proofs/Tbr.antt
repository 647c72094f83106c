pub mod Aims
pub mod BothMove
pub mod Rule
