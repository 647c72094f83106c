pub mod Meeting
pub mod GroupLists
pub mod ThirdRow
pub mod Walk
pub mod Found
pub mod Leads
pub mod Covers
