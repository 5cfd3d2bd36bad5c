-- Of a long name only the length counts.
use Rattle.std.proofs.Common.{◌≡◌, ℕ, suc, ◌+◌, Bool, true, false, nat_le, if◌then◌else◌, List, [], ◌∷◌, length, replicate, Some, None, refl, ap, ◌∙◌, arith}
use Rattle.std.specs.Fmt.{digits}
use Rattle.std.proofs.lemmas.List.{length-replicate}
use Rattle.sig_base.specs.declared.limits.TheConstants.{TEXT_MAX}
use Rattle.model_core.specs.Text.Canonical.{canonical}
use Rattle.model_core.specs.Rules.Conditions.{first_failed}
use Rattle.model_core.specs.Rules.Fuse.{fuse_conditions, fused}
use Rattle.worked_rules.specs.TwinHalves.{three_alike, long_twins}
use Rattle.worked_rules.proofs.twins.fused_models_have_texts.Goals as goal

one_more : (n : ℕ) → suc (n + 122) ≡ suc n + 122
one_more n = omega arith

-- the text of the three once two are fused has 122 bytes more than its name
length_with_name : (name : List ℕ) → length (canonical (fused (record three_alike { name = name }) 0 1)) ≡ length name + 122
unfolding digits
length_with_name [] = refl
length_with_name (byte ∷ name) = ap suc (length_with_name name) ∙ one_more (length name)

length_of_long : (bytes : ℕ) → length (canonical (fused (long_twins bytes) 0 1)) ≡ bytes + 122
length_of_long bytes = length_with_name (replicate bytes 78) ∙ ap (λ n. n + 122) (length-replicate bytes 78)

last_of_six : (fits : Bool) → first_failed (true ∷ true ∷ true ∷ true ∷ true ∷ fits ∷ []) ≡ (if fits then None else Some 6)
last_of_six true = refl
last_of_six false = refl

-- the last condition alone depends on the name
with_long_name : (bytes : ℕ) (fits : Bool) → nat_le (bytes + 122) TEXT_MAX ≡ fits → first_failed (fuse_conditions (long_twins bytes) 0 1) ≡ (if fits then None else Some 6)
with_long_name bytes fits e =
    ap (λ b. first_failed (true ∷ true ∷ true ∷ true ∷ true ∷ b ∷ [])) (ap (λ n. nat_le n TEXT_MAX) (length_of_long bytes) ∙ e) ∙ last_of_six fits

pub returns-clause-as_many_bytes : goal.returns-clause-as_many_bytes
returns-clause-as_many_bytes c = with_long_name 4194182 true refl

pub returns-clause-too_many_bytes : goal.returns-clause-too_many_bytes
returns-clause-too_many_bytes c = with_long_name 4194183 false refl
