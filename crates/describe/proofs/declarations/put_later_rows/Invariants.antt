use Rattle.std.proofs.Common.{◌≡◌, ◌++◌, map, take}
use Rattle.model_core.specs.Text.Canonical.{after_commas}
use Rattle.model_core.specs.Code.Views.{weighted_of}
use Rattle.describe.specs.Description.{row_phrase}
use Rattle.describe.proofs.declarations.put_later_rows.Given as goal

abbrev pub invariant-loop-row : goal.invariant-loop-row
invariant-loop-row l = l.out.items ≡ l.initial.out.items ++ after_commas (map row_phrase (map weighted_of (take l.row-index l.rows)))
