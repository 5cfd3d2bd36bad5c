mod FittingEdges
mod FittingVertices
mod MadeInTurn
mod NumberedNames
mod ValidGenerated
mod WordsInTurn
