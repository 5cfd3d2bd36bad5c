-- The tournament over the vertices: that its games stay played, and that its top has the least key.
pub mod KeyLaws
pub mod Places
pub mod Played
pub mod LeastAtTop
pub mod GamesLeft
pub mod Opened
pub mod Alone
