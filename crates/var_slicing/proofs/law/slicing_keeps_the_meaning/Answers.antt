use Rattle.std.proofs.Common.{sym, subst}
use Rattle.model_core.specs.Run.Same.{Same}
use Rattle.model_core.specs.Static.Reading.{IsValid}
use Rattle.model_core.specs.Rules.Needed.{needed_marks}
use Rattle.model_core.specs.Rules.Slice.{of_marked_variables}
use Rattle.var_slicing.proofs.NeedsClosed.{live_streams}
use Rattle.var_slicing.proofs.SliceResult.{without_unneeded, needs_hold, needed-same}
use Rattle.var_slicing.proofs.ValidSliced.{marked_rules, marked_spellable}
use Rattle.var_slicing.proofs.law.slicing_keeps_the_meaning.Goals as goal

pub returns-clause-valid : goal.returns-clause-valid
returns-clause-valid c = λ g variables valid none.
    let (rules, spellable) = (c.validity_is_by_parts.ensures.by_parts g).0 valid in
    let marks = needed_marks g in
    let live = live_streams g marks in
    let needs = needs_hold g rules.parts spellable in
    subst IsValid (sym (without_unneeded g variables none))
    ((c.validity_is_by_parts.ensures.by_parts (of_marked_variables g marks)).1 (marked_rules g rules.parts marks live needs rules.few_cells rules.short, marked_spellable g rules.parts marks live needs spellable))

pub returns-clause-same : goal.returns-clause-same
returns-clause-same c = λ g variables valid none.
    let (rules, spellable) = (c.validity_is_by_parts.ensures.by_parts g).0 valid in
    subst (Same g) (sym (without_unneeded g variables none))
    (needed-same g rules.parts spellable (λ seed clk change d keep inside early quietly.
    let (e, done, within) = c.quiet_parts_have_no_fault.ensures.change g seed clk change d rules.parts keep inside early quietly in (e, done)))
