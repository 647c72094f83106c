pub mod Rows
pub mod Ways
pub mod LostSplits
pub mod Nni
pub mod Spr
pub mod Tbr
pub mod AnyMove
