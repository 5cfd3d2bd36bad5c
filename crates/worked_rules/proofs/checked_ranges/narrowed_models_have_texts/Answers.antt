-- The fourth round changes nothing. Of a long name only the length counts.
use Rattle.std.proofs.Common.{◌≡◌, ℕ, suc, ◌+◌, Bool, true, false, nat_le, cond, List, [], ◌∷◌, length, replicate, refl, ap, ◌∙◌, arith}
use Rattle.std.specs.Fmt.{digits}
use Rattle.std.proofs.lemmas.List.{length-replicate}
use Rattle.sig_base.specs.declared.limits.TheConstants.{TEXT_MAX}
use Rattle.model_core.specs.Text.Canonical.{canonical}
use Rattle.model_core.specs.declared.var_range.VarRange.{VarRange}
use Rattle.model_core.specs.Rules.BoundsTable.{exact_bounds}
use Rattle.model_core.specs.Ranges.OtherRanges.{model_with_ranges}
use Rattle.model_core.specs.Ranges.Narrowed.{with_ranges_if_short}
use Rattle.worked_rules.specs.RangedModels.{span, checked_model, with_two, long_checked}
use Rattle.worked_rules.proofs.checked_ranges.narrowed_models_have_texts.Goals as goal

one_more : (n : ℕ) → suc (n + 123) ≡ suc n + 123
one_more n = omega arith

abbrev found : List VarRange
found = with_two (span 2 5) (span 3 3)

-- the text with these ranges has 123 bytes more than its name
length_with_name : (name : List ℕ) → length (canonical (model_with_ranges (record checked_model { name = name }) found)) ≡ length name + 123
unfolding digits
length_with_name [] = refl
length_with_name (byte ∷ name) = ap suc (length_with_name name) ∙ one_more (length name)

length_of_long : (bytes : ℕ) → length (canonical (model_with_ranges (long_checked bytes) found)) ≡ bytes + 123
length_of_long bytes = length_with_name (replicate bytes 78) ∙ ap (λ n. n + 123) (length-replicate bytes 78)

by_its_length : (bytes : ℕ) (fits : Bool) → nat_le (bytes + 123) TEXT_MAX ≡ fits → with_ranges_if_short (long_checked bytes) found ≡ cond fits (model_with_ranges (long_checked bytes) found) (long_checked bytes)
by_its_length bytes fits e =
    ap (λ b. cond b (model_with_ranges (long_checked bytes) found) (long_checked bytes)) (ap (λ n. nat_le n TEXT_MAX) (length_of_long bytes) ∙ e)

pub returns-clause-narrowed : goal.returns-clause-narrowed
unfolding digits exact_bounds
returns-clause-narrowed c = record { ranges = found; inferred = record { rounds = 3; few = omega arith; reached = refl; stays = refl }; declared = refl }

pub returns-clause-as_many_bytes : goal.returns-clause-as_many_bytes
returns-clause-as_many_bytes c = by_its_length 4194181 true refl

pub returns-clause-too_many_bytes : goal.returns-clause-too_many_bytes
returns-clause-too_many_bytes c = by_its_length 4194182 false refl
