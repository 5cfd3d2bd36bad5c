-- The tokens spell the same as the pieces.
use Rattle.snapshot_text.proofs.token_calls.read_snapshot.Goals as goal

pub read_snapshot_pieces-requires-clause-spelled : goal.read_snapshot_pieces-requires-clause-spelled
read_snapshot_pieces-requires-clause-spelled c = rw (c.pieces_are_the_tokens.ensures.same c.args.tokens.now) c.requires.spelled

pub returns-clause-good : goal.returns-clause-good
returns-clause-good c = rw (c.pieces_are_the_tokens.ensures.same c.args.tokens.now) at c.read_snapshot_pieces.ensures.good

pub returns-clause-bad : goal.returns-clause-bad
returns-clause-bad c = rw (c.pieces_are_the_tokens.ensures.same c.args.tokens.now) at c.read_snapshot_pieces.ensures.bad
