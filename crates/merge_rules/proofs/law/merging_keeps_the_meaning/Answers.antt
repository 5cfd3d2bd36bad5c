use Rattle.model_core.specs.Rules.Merge.{merged}
use Rattle.merge_rules.proofs.OneStepForTwo.MergeHolds.{conditions_hold}
use Rattle.merge_rules.proofs.OneStepForTwo.MergeResult.{merged_same}
use Rattle.merge_rules.proofs.MergedText.ValidMerged.{merged_rules, merged_spellable}
use Rattle.merge_rules.proofs.law.merging_keeps_the_meaning.Goals as goal

pub returns-clause-valid : goal.returns-clause-valid
returns-clause-valid c = λ g first second valid none.
    let (rules, spellable) = (c.validity_is_by_parts.ensures.by_parts g).0 valid in
    let h = conditions_hold g first second none in
    (c.validity_is_by_parts.ensures.by_parts (merged g first second)).1 (merged_rules g rules.parts first second h rules.few_cells, merged_spellable g rules.parts first second h spellable)

pub returns-clause-same : goal.returns-clause-same
returns-clause-same c = λ g first second valid none.
    let keeps = ((c.validity_is_by_parts.ensures.by_parts g).0 valid).0.parts in
    merged_same g keeps
    (λ s clk a b inside early. c.exclusive_conditions_are_never_both_true.ensures.apart g s clk a b keeps.variables inside early)
    (record {
      change = λ seed clk change d keep. c.quiet_parts_have_no_fault.ensures.change g seed clk change d keeps keep;
      edge = λ seed clk s e p keep. c.quiet_parts_have_no_fault.ensures.edge g seed clk s e p keeps keep;
    })
    first second none
