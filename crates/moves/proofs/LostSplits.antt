pub mod Chain
pub mod Lost
pub mod Count
pub mod TwoChains
