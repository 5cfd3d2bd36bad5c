-- the text is added piece by piece
use Rattle.std.proofs.Common.{rules, append_assoc}
use Rattle.describe.proofs.PiecesAdded.{all_added}
use Rattle.describe.proofs.declarations.put_held.Goals as goal

pub returns-in_ok-put_bytes-in-Range : goal.returns-in_ok-put_bytes-in-Range
returns-in_ok-put_bytes-in-Range c = rw c.in-Range.is (all_added _ _ _ _ c.put_signed.ensures (rw (c.in_ok-put_bytes-in-Range.ensures, c.in_ok-put_range-in-Range.ensures) (simp append_assoc (search rules))))
