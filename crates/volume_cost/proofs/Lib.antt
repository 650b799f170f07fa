pub mod GrowthLaws
pub mod RoomLaws
pub mod JudgeLaws
