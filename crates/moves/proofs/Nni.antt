pub mod Swap
pub mod Ends
pub mod Exchange
pub mod FourGroups
pub mod Move
