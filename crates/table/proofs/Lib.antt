pub mod Ends
pub mod Tallies
pub mod Stages
pub mod Alls
