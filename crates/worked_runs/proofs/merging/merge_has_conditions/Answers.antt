-- The length of the result's canonical text is computed, and its numbers with it. Of a long name only the length counts.
use Rattle.std.proofs.Common.{◌≡◌, ℕ, suc, ◌+◌, Bool, true, false, nat_le, if◌then◌else◌, List, [], ◌∷◌, length, replicate, Some, None, refl, ap, ◌∙◌, arith}
use Rattle.std.specs.Fmt.{digits}
use Rattle.std.proofs.lemmas.List.{length-replicate}
use Rattle.sig_base.specs.declared.limits.TheConstants.{TEXT_MAX}
use Rattle.model_core.specs.Text.Canonical.{canonical}
use Rattle.model_core.specs.Rules.BoundsTable.{exact_bounds}
use Rattle.model_core.specs.Rules.Conditions.{first_failed}
use Rattle.model_core.specs.Rules.Merge.{merge_conditions, merged}
use Rattle.worked_runs.specs.MergingModels.{three_at_once, long_named}
use Rattle.worked_runs.proofs.merging.merge_has_conditions.Goals as goal

pub returns-clause-holds : goal.returns-clause-holds
unfolding digits exact_bounds
returns-clause-holds c = refl

pub returns-clause-either : goal.returns-clause-either
unfolding digits exact_bounds
returns-clause-either c = refl

pub returns-clause-either_by_numbers : goal.returns-clause-either_by_numbers
unfolding digits exact_bounds
returns-clause-either_by_numbers c = refl

pub returns-clause-another_cancelled : goal.returns-clause-another_cancelled
unfolding digits exact_bounds
returns-clause-another_cancelled c = refl

pub returns-clause-unseen_fault : goal.returns-clause-unseen_fault
unfolding digits exact_bounds
returns-clause-unseen_fault c = refl

pub returns-clause-writes_unseen : goal.returns-clause-writes_unseen
unfolding digits exact_bounds
returns-clause-writes_unseen c = refl

pub returns-clause-as_many_changes : goal.returns-clause-as_many_changes
unfolding digits exact_bounds
returns-clause-as_many_changes c = refl

one_more : (n : ℕ) → suc (n + 134) ≡ suc n + 134
one_more n = omega arith

-- the text of the chain once it is merged has 134 bytes more than its name
length_with_name : (name : List ℕ) → length (canonical (merged (record three_at_once { name = name }) 1 2)) ≡ length name + 134
unfolding digits
length_with_name [] = refl
length_with_name (byte ∷ name) = ap suc (length_with_name name) ∙ one_more (length name)

length_of_long : (bytes : ℕ) → length (canonical (merged (long_named bytes) 1 2)) ≡ bytes + 134
length_of_long bytes = length_with_name (replicate bytes 78) ∙ ap (λ n. n + 134) (length-replicate bytes 78)

last_of_eight : (fits : Bool) → first_failed (true ∷ true ∷ true ∷ true ∷ true ∷ true ∷ true ∷ fits ∷ []) ≡ (if fits then None else Some 8)
last_of_eight true = refl
last_of_eight false = refl

-- the last condition alone depends on the name
with_long_name : (bytes : ℕ) (fits : Bool) → nat_le (bytes + 134) TEXT_MAX ≡ fits → first_failed (merge_conditions (long_named bytes) 1 2) ≡ (if fits then None else Some 8)
unfolding exact_bounds
with_long_name bytes fits e =
    ap (λ b. first_failed (true ∷ true ∷ true ∷ true ∷ true ∷ true ∷ true ∷ b ∷ [])) (ap (λ n. nat_le n TEXT_MAX) (length_of_long bytes) ∙ e)
    ∙ last_of_eight fits

pub returns-clause-too_many_bytes : goal.returns-clause-too_many_bytes
returns-clause-too_many_bytes c = with_long_name 4194171 false refl

pub returns-clause-as_many_bytes : goal.returns-clause-as_many_bytes
returns-clause-as_many_bytes c = with_long_name 4194170 true refl
