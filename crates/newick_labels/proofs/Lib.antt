pub mod HeadLaws
pub mod LabelLaws
pub mod OneLabel
pub mod TextLaws
