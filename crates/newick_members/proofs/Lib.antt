pub mod Members
pub mod Places
pub mod SlotLaws
pub mod StageLaws
