pub mod Rows
pub mod Valid
pub mod Graft
pub mod WayRows
pub mod WayKept
pub mod Chain
pub mod Dist
pub mod Rule
