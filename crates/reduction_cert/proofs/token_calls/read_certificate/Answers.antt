-- What the pieces spell, the tokens do.
use Rattle.reduction_cert.proofs.token_calls.read_certificate.Goals as goal

pub returns-clause-ok : goal.returns-clause-ok
returns-clause-ok c = rw (c.pieces_are_the_tokens.ensures.same c.args.tokens.now) at c.read_certificate_pieces.ensures.ok

pub returns-clause-unexpected : goal.returns-clause-unexpected
returns-clause-unexpected c = rw (c.pieces_are_the_tokens.ensures.same c.args.tokens.now, c.pieces_are_the_tokens.ensures.text c.args.tokens.now) at c.read_certificate_pieces.ensures.unexpected
