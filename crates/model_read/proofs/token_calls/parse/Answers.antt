-- What the pieces spell, the tokens do.
use Rattle.model_read.proofs.token_calls.parse.Goals as goal

pub returns-clause-ok : goal.returns-clause-ok
returns-clause-ok c = rw (c.pieces_are_the_tokens.ensures.same c.args.tokens.now) at c.parse_pieces.ensures.ok

pub returns-clause-unexpected : goal.returns-clause-unexpected
returns-clause-unexpected c = rw (c.pieces_are_the_tokens.ensures.same c.args.tokens.now, c.pieces_are_the_tokens.ensures.text c.args.tokens.now) at c.parse_pieces.ensures.unexpected

pub returns-clause-too_deep : goal.returns-clause-too_deep
returns-clause-too_deep c = rw (c.pieces_are_the_tokens.ensures.same c.args.tokens.now) at c.parse_pieces.ensures.too_deep
