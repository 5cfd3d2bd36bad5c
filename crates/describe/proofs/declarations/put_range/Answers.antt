-- the text is added piece by piece
use Rattle.std.proofs.Common.{rules, append_assoc}
use Rattle.describe.proofs.PiecesAdded.{all_added}
use Rattle.describe.proofs.declarations.put_range.Goals as goal

pub returns : goal.returns
returns c = all_added _ _ _ _ c.put_bytes-3.ensures (rw (c.in_ok-put_signed-2.ensures, c.in_ok-put_bytes-2.ensures, c.in_ok-put_signed.ensures, c.in_ok-put_bytes.ensures, c.kept_phrase.ensures) (simp append_assoc (search rules)))
