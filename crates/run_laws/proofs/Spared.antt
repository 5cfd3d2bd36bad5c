-- What an event doesn't use may be set before it or after it, and what it doesn't write stays.
pub mod SetPlaces
pub mod InTurn
pub mod NamedVariables
pub mod HeldValues
pub mod HeldEdges
pub mod WordsApart
pub mod SparedValues
pub mod SparedChanges
pub mod WrittenChanges
