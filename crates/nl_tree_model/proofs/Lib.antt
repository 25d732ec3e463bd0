pub mod CallProofs
pub mod PrefixProofs
pub mod RoomProofs
pub mod SpaceSteps
pub mod PlainProofs
