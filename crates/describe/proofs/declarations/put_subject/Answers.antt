-- the text is added piece by piece
use Rattle.std.proofs.Common.{rules, append_assoc, append-nil}
use Rattle.describe.proofs.ArrayPhrases.{array_phrase}
use Rattle.describe.proofs.declarations.put_subject.Goals as goal

pub returns-in_ok-put_number : goal.returns-in_ok-put_number
returns-in_ok-put_number c = rw (array_phrase c.args.var.now.name c.args.var.now.size c.if-var-eq0.false, ← c.as_slice-else-var-eq0.ensures) (search (rules, append_assoc, append-nil))
