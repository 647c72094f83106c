pub mod PartitionLaws
pub mod DoorLaws
