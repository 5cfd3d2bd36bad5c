-- One variable more.
use Rattle.std.proofs.Common.{◌∙◌, ◌++◌, ◌∷◌, [], List, map, get_or, sym, ap}
use Rattle.std.proofs.lemmas.List.{map-append, map_more}
use Rattle.model_core.specs.EventGraph.{Location, scalar_location}
use Rattle.model_core.specs.Code.Views.{location_of}
use Rattle.merge_rules.proofs.taking_over.scalar_targets.Goals as goal

pub loop-var-preserved : goal.loop-var-preserved
loop-var-preserved c =
    ap (map location_of) c.in_ok-push.ensures.items
    ∙ map-append location_of c.loop-var.targets.items _
    ∙ ap (λ (before : List Location). before ++ scalar_location (get_or c.args.vars.now c.loop-var.var-index 0) ∷ []) c.loop-var.invariant
    ∙ sym (map_more scalar_location c.args.vars.now c.loop-var.var-index 0 c.loop-var-test.true)
