use Rattle.model_core.specs.Ranges.OtherRanges.{model_with_ranges}
use Rattle.range_infer.proofs.NarrowedRuns.{narrowed-same}
use Rattle.range_infer.proofs.ValidNarrowed.{narrowed_rules, narrowed_spellable}
use Rattle.range_infer.proofs.law.narrowing_keeps_the_meaning.Goals as goal

pub returns-clause-valid : goal.returns-clause-valid
returns-clause-valid c = λ g ranges valid fitting inductive short.
    let (rules, spellable) = (c.validity_is_by_parts.ensures.by_parts g).0 valid in
    (c.validity_is_by_parts.ensures.by_parts (model_with_ranges g ranges)).1 (narrowed_rules g ranges fitting inductive.begins rules short, narrowed_spellable g ranges fitting inductive.begins rules.parts spellable)

pub returns-clause-same : goal.returns-clause-same
returns-clause-same c = λ g ranges valid fitting inductive.
    narrowed-same g ranges ((c.validity_is_by_parts.ensures.by_parts g).0 valid).0.parts fitting inductive
