-- the text is put piece by piece
use Rattle.std.proofs.Common.{rules}
use Rattle.model_print.proofs.Putting.{put_as, two, three}
use Rattle.model_print.proofs.declarations.put_kind.Goals as goal

pub returns-in-Truth : goal.returns-in-Truth
returns-in-Truth g c = rw c.in-Truth.is (put_as g.met.P.Pen.both _ (search rules) (two g.met.P.Pen.both c.put_bytes.ensures c.put_initial_truth.ensures))

pub returns-in-Range : goal.returns-in-Range
returns-in-Range g c = rw c.in-Range.is (put_as g.met.P.Pen.both _ (search rules) (three g.met.P.Pen.both c.put_range.ensures c.put_bytes-in-Range.ensures c.put_signed.ensures))
