-- the text is added piece by piece
use Rattle.std.proofs.Common.{append_assoc, append-nil}
use Rattle.describe.proofs.PiecesAdded.{all_added}
use Rattle.describe.proofs.edges.put_scheduling.Goals as goal

pub returns : goal.returns
returns c = all_added _ _ _ _ c.put_values.ensures (rw (c.in_ok-put_counted.ensures, c.in_ok-put_delay.ensures, c.in_ok-put_texts.ensures, c.vertex_name-name.ensures, c.as_slice.ensures, c.from.ensures) (simp (append_assoc, append-nil)))
