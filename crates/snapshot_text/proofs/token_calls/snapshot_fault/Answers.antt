-- Where the pieces stop to begin a snapshot, the tokens do.
use Rattle.snapshot_text.proofs.token_calls.snapshot_fault.Goals as goal

pub returns-clause-none : goal.returns-clause-none
returns-clause-none c = rw (c.pieces_are_the_tokens.ensures.same c.args.tokens.now) at c.snapshot_fault_pieces.ensures.none

pub returns-clause-some : goal.returns-clause-some
returns-clause-some c = rw (c.pieces_are_the_tokens.ensures.same c.args.tokens.now, c.pieces_are_the_tokens.ensures.text c.args.tokens.now) at c.snapshot_fault_pieces.ensures.some
