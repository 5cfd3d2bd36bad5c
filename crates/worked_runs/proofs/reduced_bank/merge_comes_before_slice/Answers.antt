-- Each application is the first rule, and its result is computed.
use Rattle.std.proofs.Common.{◌≡◌, Some, codes, refl, sym, ◌∙◌}
use Rattle.std.specs.Fmt.{digits}
use Rattle.model_core.specs.Rules.BoundsTable.{exact_bounds, least_of, greatest_of}
use Rattle.model_core.specs.Rules.Reduction.{Merge, Slice, first_rule}
use Rattle.worked_runs.specs.Models.{bank, smaller_bank}
use Rattle.worked_runs.specs.MergingModels.{bank_merged}
use Rattle.worked_runs.proofs.reduced_bank.merge_comes_before_slice.Goals as goal

merge_is_first : first_rule bank ≡ Some (Merge (codes "RUN") (codes "ENTER"))
unfolding digits exact_bounds least_of greatest_of
merge_is_first = refl

pub returns-clause-merge_first : goal.returns-clause-merge_first
returns-clause-merge_first c = merge_is_first

pub returns-clause-then_slice : goal.returns-clause-then_slice
unfolding digits exact_bounds least_of greatest_of
returns-clause-then_slice c = refl

pub returns-clause-slice_could_be_first : goal.returns-clause-slice_could_be_first
unfolding digits exact_bounds least_of greatest_of
returns-clause-slice_could_be_first c = refl

pub returns-clause-whole : goal.returns-clause-whole
unfolding digits exact_bounds least_of greatest_of
returns-clause-whole c = (merge_is_first, bank_merged, refl, (refl, smaller_bank, refl, (refl, refl)))

-- a merge is no slice
other_rules : (name target : _) (names : _) → Some (Merge name target) ≡ Some (Slice names) → ⊥
other_rules name target names e = cc

pub returns-clause-not_slice_first : goal.returns-clause-not_slice_first
returns-clause-not_slice_first c (slice_first, next, made, later) = other_rules _ _ _ (sym merge_is_first ∙ slice_first)
