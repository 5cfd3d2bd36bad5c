-- What slicing gives where its conditions hold: the graph of the variables that are needed, which means the same.
use Rattle.std.proofs.Common.{◌≡◌, ℕ, Bool, true, false, List, [], ◌∷◌, length, None, refl, sym, ap, ◌∙◌}
use Rattle.model_core.specs.EventGraph.{EventGraph}
use Rattle.model_core.specs.Run.Same.{Same}
use Rattle.model_core.specs.Text.Spellable.{IsSpellable}
use Rattle.model_core.specs.Static.OwnRules.{KeepsParts}
use Rattle.model_core.specs.Rules.Conditions.{first_failed}
use Rattle.model_core.specs.Rules.Drop.{is_nonempty_list, lists_exactly, staying_marks}
use Rattle.model_core.specs.Rules.Needed.{needed_at_once, needed_beside, needed_marks, unneeded}
use Rattle.model_core.specs.Rules.Slice.{slice_conditions, of_marked_variables, sliced}
use Rattle.bound_laws.proofs.BeginsInRange.{kept_models_begin_in_range}
use Rattle.mark_laws.proofs.EntailedMarks.{entailed_marks-long, entailed_marks-hold}
use Rattle.mark_laws.proofs.StayingMarks.{staying-unmarked, exactly-equal}
use Rattle.var_slicing.proofs.SlicedRuns.{marked-same}
use Rattle.var_slicing.proofs.NeedsClosed.{NeedsHold, live_streams, marks-hold_needs}
use Rattle.var_slicing.proofs.QuietStores.{QuietChanges, unneeded_may_go}

second-holds : (a b : Bool) → first_failed (a ∷ b ∷ []) ≡ None → b ≡ true
second-holds true true none = refl
second-holds true false none = cc
second-holds false b none = cc

lists_unneeded : (g : EventGraph) (variables : List ℕ) → first_failed (slice_conditions g variables) ≡ None → variables ≡ unneeded g
lists_unneeded g variables none = exactly-equal variables (unneeded g) (second-holds (is_nonempty_list variables) (lists_exactly variables (unneeded g)) none)

needed_marks-long : (g : EventGraph) → length (needed_marks g) ≡ length g.variables
needed_marks-long g = entailed_marks-long (length g.variables) (needed_at_once g) (needed_beside g)

-- without what isn't needed there are the marked variables
pub without_unneeded : (g : EventGraph) (variables : List ℕ) → first_failed (slice_conditions g variables) ≡ None → sliced g variables ≡ of_marked_variables g (needed_marks g)
without_unneeded g variables none = ap (sliced g) (lists_unneeded g variables none) ∙ ap (of_marked_variables g) (ap (staying_marks (unneeded g)) (sym (needed_marks-long g)) ∙ staying-unmarked (needed_marks g))

pub needs_hold : (g : EventGraph) → KeepsParts g → IsSpellable g → NeedsHold g (needed_marks g) (live_streams g (needed_marks g))
needs_hold g keeps spellable = marks-hold_needs g spellable keeps (needed_marks g) (entailed_marks-hold (length g.variables) (needed_at_once g) (needed_beside g))

pub needed-same : (g : EventGraph) → KeepsParts g → IsSpellable g → QuietChanges g → Same g (of_marked_variables g (needed_marks g))
needed-same g keeps spellable quiet =
    let marks = needed_marks g in
    let live = live_streams g marks in
    marked-same g marks live _ (unneeded_may_go g quiet keeps marks live (needs_hold g keeps spellable)) (kept_models_begin_in_range g keeps)
