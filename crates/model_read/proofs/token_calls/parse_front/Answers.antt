-- What the pieces begin with, the tokens do.
use Rattle.model_read.proofs.token_calls.parse_front.Goals as goal

pub parse_front_pieces-requires : goal.parse_front_pieces-requires
parse_front_pieces-requires c = rw (c.pieces_are_the_tokens.ensures.as_many c.args.tokens.now) c.requires

pub returns-clause-ok : goal.returns-clause-ok
returns-clause-ok c = rw (c.pieces_are_the_tokens.ensures.same c.args.tokens.now) at c.parse_front_pieces.ensures.ok

pub returns-clause-inside : goal.returns-clause-inside
returns-clause-inside c = rw (c.pieces_are_the_tokens.ensures.as_many c.args.tokens.now) at c.parse_front_pieces.ensures.inside

pub returns-clause-unexpected : goal.returns-clause-unexpected
returns-clause-unexpected c = rw (c.pieces_are_the_tokens.ensures.same c.args.tokens.now, c.pieces_are_the_tokens.ensures.text c.args.tokens.now) at c.parse_front_pieces.ensures.unexpected

pub returns-clause-too_deep : goal.returns-clause-too_deep
returns-clause-too_deep c = rw (c.pieces_are_the_tokens.ensures.same c.args.tokens.now) at c.parse_front_pieces.ensures.too_deep
