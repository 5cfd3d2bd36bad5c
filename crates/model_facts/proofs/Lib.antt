pub mod EdgesChanged
pub mod BodiesKept
pub mod LengthLeft
pub mod BodiesLeft
