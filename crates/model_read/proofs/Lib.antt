mod FirstToken
mod LevelCalls
mod OpeningSteps
mod WholeText
mod PlacedReads
mod NamesInTables
mod PiecesFrom
