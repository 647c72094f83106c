pub mod PlantLaws
pub mod OneReading
