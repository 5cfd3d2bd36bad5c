-- One set more, which is empty.
use Rattle.std.proofs.Common.{◌++◌, ◌∷◌, [], List, ℕ, ap, ◌∙◌}
use Rattle.conflict_report.proofs.NumbersNoted.{reached}
use Rattle.conflict_report.proofs.holders.Holders.reach.Goals as goal

pub sets-preserved : goal.sets-preserved
sets-preserved c =
    let sets = c.sets.self-inside.sets.items in
    λ k j. reached sets c.push.new.self.items (c.in_ok-push.ensures.items ∙ ap (λ (s : List ℕ). sets ++ s ∷ []) c.new.ensures) k j ∙ c.sets.invariant k j
