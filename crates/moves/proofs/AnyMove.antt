pub mod Moved
pub mod Named
pub mod Plans
pub mod Sides
pub mod Demands
pub mod Cases
