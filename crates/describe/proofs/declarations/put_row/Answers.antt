-- the text is added piece by piece
use Rattle.std.proofs.Common.{rules, append_assoc}
use Rattle.describe.proofs.declarations.put_row.Goals as goal

pub returns : goal.returns
returns c = search (rules, append_assoc)
