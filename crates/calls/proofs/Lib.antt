pub mod AtOnce
pub mod CallLaws
pub mod CheckLaws
pub mod NumberLaws
pub mod SaysLaws
pub mod StartLaws
