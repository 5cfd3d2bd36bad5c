-- the text is added piece by piece
use Rattle.std.proofs.Common.{rules, append_assoc, append-nil}
use Rattle.describe.proofs.PiecesAdded.{all_added}
use Rattle.describe.proofs.edges.put_deed.Goals as goal

pub returns-in_ok-put_texts-in-Urgent : goal.returns-in_ok-put_texts-in-Urgent
returns-in_ok-put_texts-in-Urgent c = rw (c.in-Urgent.is, ← c.vertex_name-name.ensures, ← c.as_slice.ensures) (search (rules, append_assoc, append-nil))

pub returns-in-CancelAll : goal.returns-in-CancelAll
returns-in-CancelAll c = rw c.in-CancelAll.is (all_added _ _ _ _ c.put_texts-in-CancelAll.ensures (rw c.vertex_name-name.ensures (simp (append_assoc, append-nil))))
