pub mod WordsCut
pub mod SeenEnds
pub mod CallLaws
pub mod RoomsFilled
