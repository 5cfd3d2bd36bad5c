pub mod Rooms
pub mod NumberViews
pub mod TermViews
pub mod Views
