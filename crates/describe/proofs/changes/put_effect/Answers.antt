-- the text is added piece by piece
use Rattle.std.proofs.Common.{rules, append_assoc}
use Rattle.describe.proofs.changes.put_effect.Goals as goal

pub returns-in_ok-put_bytes-in-Draw : goal.returns-in_ok-put_bytes-in-Draw
returns-in_ok-put_bytes-in-Draw c = rw c.in-Draw.is (search (rules, append_assoc))
