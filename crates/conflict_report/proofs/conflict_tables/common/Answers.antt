-- Begun with no vertices.
use Rattle.std.proofs.Common.{◌||◌, List, ℕ, ap, ◌∙◌}
use Rattle.conflict_report.specs.Inner.NumberHolders.{has_vertex, hold_common}
use Rattle.conflict_report.proofs.BitsOfSets.{none-has}
use Rattle.conflict_report.proofs.conflict_tables.common.Goals as goal

pub returns : goal.returns
returns c = λ j.
    c.in_ok-add_common.ensures j
    ∙ ap (λ b. b || hold_common c.args.first.now c.args.second.now c.args.vertex j) (ap (λ (s : List ℕ). has_vertex s j) c.new-found.ensures ∙ none-has j)
