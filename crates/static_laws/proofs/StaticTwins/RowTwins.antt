-- Each static rule, said of the value that is numbered: a row of the table has no fault exactly where this holds.
use Rattle.std.proofs.Common.{◌≡◌, ◌↔◌, ℕ, ◌+◌, ◌≤◌, ◌<◌, ℤ, pos, negsuc, neg_ℤ, ◌+ℤ◌, ◌≤ℤ◌, ◌<ℤ◌, Bool, true, false, not, ◌||◌, inl, inr, List, [], ◌++◌, length, Option, Some, None, is_none, refl, sym, subst, arith, nat_eq, nat_lt}
use Rattle.std.specs.Prelude.{slice_get}
use Rattle.std.specs.Int.Signed.{le_z, lt_z}
use Rattle.std.specs.Option.{option_map}
use Rattle.std.proofs.lemmas.Int.{ints}
use Rattle.std.proofs.lemmas.Bool.Decides.{nat_tests}
use Rattle.std.proofs.lemmas.Option.{same_Some, slice_get_cases, slice_get_within}
use Rattle.sig_base.specs.declared.limits.TheConstants.{NAME_MAX, LITERAL_MAX, WEIGHTS_MAX, ARRAY_CELLS_MAX}
use Rattle.model_core.specs.declared.model.Kind.{Kind}
use Rattle.model_core.specs.declared.model.Kind.TheVariants as kinds
use Rattle.model_core.specs.declared.static_kind.StaticKind.{StaticKind}
use Rattle.model_core.specs.declared.static_kind.StaticKind.TheVariants as rules
use Rattle.model_core.specs.Text.Written.{WrittenName, WrittenNumber, WrittenSigned}
use Rattle.model_core.specs.Text.Numbering.{◌>>=◌, natural_of, natural, with_sign, signed}
use Rattle.model_core.specs.Static.FaultOrder.{fault_where}
use Rattle.model_core.specs.Static.Kinds.{kinds_differ}
use Rattle.model_core.specs.Static.RuleTable.{certain_number, certain_signed, is_between, name_too_long, value_count, kind_mismatch, number_too_large, literal_too_large, empty_range, initial_outside, size_outside, priority_outside, stream_outside, draw_outside, weight_outside, too_many}
use Rattle.model_core.specs.Static.OwnRules.{IsShort, IsLiteral}
use Rattle.static_laws.proofs.StaticTwins.Twins.{broken_not, Twin}

-- ---- tests

pub is_not : (b : Bool) → not b ≡ false ↔ b ≡ true
is_not true = (λ e. refl, λ e. refl)
is_not false = (λ e. cc, λ e. cc)

pub between : (least most n : ℤ) → is_between least most n ≡ true ↔ (least ≤ℤ n) × (n ≤ℤ most)
between least most n = (λ e. (at_least e, at_most e), λ (a, b). both a b)
  where
    at_least : is_between least most n ≡ true → least ≤ℤ n
    at_least e = grind (arith, ints)

    at_most : is_between least most n ≡ true → n ≤ℤ most
    at_most e = grind (arith, ints)

    both : least ≤ℤ n → n ≤ℤ most → is_between least most n ≡ true
    both a b = grind (arith, ints)

pub not_above : (limit k : ℕ) → nat_lt limit k ≡ false ↔ k ≤ limit
not_above limit k = (λ e. grind (arith, nat_tests), λ h. grind (arith, nat_tests))

-- where a test decides a fact, the fault of its failing decides it too
pub fault_where-none : {P : Type 0} (b : Bool) (kind : StaticKind) (at : ℕ) → (b ≡ false ↔ P) → fault_where b kind at ≡ [] ↔ P
fault_where-none b kind at t = (λ e. t.0 ((broken_not b kind at).0 e), λ p. (broken_not b kind at).1 (t.1 p))

-- ---- names, counts and kinds

pub short_name : (n : WrittenName) → name_too_long n ≡ [] ↔ IsShort n.name
short_name n = fault_where-none (nat_lt NAME_MAX (length n.name)) rules.NameTooLong n.at (not_above NAME_MAX (length n.name))

pub same_count : (wanted given at : ℕ) → value_count wanted given at ≡ [] ↔ wanted ≡ given
same_count wanted given at = fault_where-none (not (nat_eq wanted given)) rules.ValueCount at (λ e. grind (arith, nat_tests), λ h. grind (arith, nat_tests))

pub same_kind : (a b : Kind) (at : ℕ) → kind_mismatch (Some a) (Some b) at ≡ [] ↔ a ≡ b
same_kind a b at = fault_where-none (kinds_differ (Some a) (Some b)) rules.KindMismatch at (alike a b)
  where
    alike : (a b : Kind) → kinds_differ (Some a) (Some b) ≡ false ↔ a ≡ b
    alike kinds.Truth kinds.Truth = (λ e. refl, λ e. refl)
    alike kinds.Truth kinds.Range = (λ e. cc, λ e. cc)
    alike kinds.Range kinds.Truth = (λ e. cc, λ e. cc)
    alike kinds.Range kinds.Range = (λ e. refl, λ e. refl)

-- a list of at most so many places has no first one too many
pub few : (limit : ℕ) (places : List ℕ) → too_many limit places ≡ [] ↔ length places ≤ limit
few limit places = by_get (slice_get places limit) refl
  where
    by_get : (o : Option ℕ) → slice_get places limit ≡ o → elim o [ None ↦ [] | Some at ↦ fault_where true rules.TooMany at ] ≡ [] ↔ length places ≤ limit
    by_get None e = (λ h. within e, λ h. refl)
      where
        within : slice_get places limit ≡ None → length places ≤ limit
        within e = elim (slice_get_cases places limit).1 [ inl (x, lt, at, read) ↦ cc | inr p ↦ p.0 ]
    by_get (Some at) e = (λ h. cc, λ h. absurd (omega (arith, slice_get_within places limit at e)))

-- ---- numbers

-- a number that isn't too large has a value
pub valued : (n : WrittenNumber) → Twin (number_too_large n) n.value (λ z. Unit {0})
valued n = of_value n.value
  where
    of_value : (value : Option ℤ) → Twin (fault_where (is_none value) rules.LiteralTooLarge n.at) value (λ z. Unit {0})
    of_value None = record { kept = λ e. cc; unbroken = λ y s q. cc }
    of_value (Some z) = record { kept = λ e. (z, refl, tt); unbroken = λ y s q. refl }

-- a number within limits that aren't negative
pub natural_between : (lo hi : ℕ) (value : Option ℤ) (large outside : StaticKind) (at : ℕ)
    → Twin (fault_where (is_none value) large at ++ fault_where (not (is_between (pos lo) (pos hi) (certain_number value))) outside at) (value >>= natural_of) (λ k. (lo ≤ k) × (k ≤ hi))
natural_between lo hi None large outside at = record { kept = λ e. cc; unbroken = λ y s q. cc }
natural_between lo hi (Some (negsuc n)) large outside at = record { kept = λ e. cc; unbroken = λ y s q. cc }
natural_between lo hi (Some (pos n)) large outside at = record {
  kept = λ e. (n, refl, within ((is_not (is_between (pos lo) (pos hi) (pos n))).0 ((broken_not (not (is_between (pos lo) (pos hi) (pos n))) outside at).0 e)));
  unbroken = λ y s q. (broken_not (not (is_between (pos lo) (pos hi) (pos n))) outside at).1 ((is_not (is_between (pos lo) (pos hi) (pos n))).1 (between_so (subst (λ k. (lo ≤ k) × (k ≤ hi)) (sym (same_Some n y s)) q)));
}
  where
    within : is_between (pos lo) (pos hi) (pos n) ≡ true → (lo ≤ n) × (n ≤ hi)
    within e = (grind (arith, ints), grind (arith, ints))

    between_so : (lo ≤ n) × (n ≤ hi) → is_between (pos lo) (pos hi) (pos n) ≡ true
    between_so (a, b) = grind (arith, ints)

pub size_twin : (n : WrittenNumber) → Twin (number_too_large n ++ size_outside ARRAY_CELLS_MAX n) (natural n) (λ k. (1 ≤ k) × (k ≤ ARRAY_CELLS_MAX))
size_twin n = natural_between 1 ARRAY_CELLS_MAX n.value rules.LiteralTooLarge rules.SizeOutside n.at

pub priority_twin : (n : WrittenNumber) → Twin (number_too_large n ++ priority_outside n) (natural n) (λ k. (1 ≤ k) × (k ≤ 255))
priority_twin n = natural_between 1 255 n.value rules.LiteralTooLarge rules.PriorityOutside n.at

pub stream_twin : (n : WrittenNumber) → Twin (number_too_large n ++ stream_outside n) (natural n) (λ k. (0 ≤ k) × (k ≤ 63))
stream_twin n = natural_between 0 63 n.value rules.LiteralTooLarge rules.StreamOutside n.at

-- a weight is 0, or too large after others of this sum
abbrev is_outside : ℕ → ℕ → ℤ → Bool
is_outside before limit n = le_z n (pos 0) || lt_z (pos limit) (pos before +ℤ n)

inside_weights : (before limit n : ℕ) → is_outside before limit (pos n) ≡ false ↔ (0 < n) × (before + n ≤ limit)
inside_weights before limit n = (λ e. (some e, few e), λ (a, b). inside a b)
  where
    some : is_outside before limit (pos n) ≡ false → 0 < n
    some e = grind (arith, ints)

    few : is_outside before limit (pos n) ≡ false → before + n ≤ limit
    few e = grind (arith, ints)

    inside : 0 < n → before + n ≤ limit → is_outside before limit (pos n) ≡ false
    inside a b = grind (arith, ints)

weight_of : (before limit : ℕ) (value : Option ℤ) (at : ℕ)
    → Twin (fault_where (is_none value) rules.LiteralTooLarge at ++ fault_where (is_outside before limit (certain_number value)) rules.WeightOutside at) (value >>= natural_of) (λ k. (0 < k) × (before + k ≤ limit))
weight_of before limit None at = record { kept = λ e. cc; unbroken = λ y s q. cc }
weight_of before limit (Some (negsuc n)) at = record { kept = λ e. cc; unbroken = λ y s q. cc }
weight_of before limit (Some (pos n)) at = record {
  kept = λ e. (n, refl, (inside_weights before limit n).0 ((broken_not (is_outside before limit (pos n)) rules.WeightOutside at).0 e));
  unbroken = λ y s q. (broken_not (is_outside before limit (pos n)) rules.WeightOutside at).1 ((inside_weights before limit n).1 (subst (λ k. (0 < k) × (before + k ≤ limit)) (sym (same_Some n y s)) q));
}

pub weight_twin : (before : ℕ) (n : WrittenNumber) → Twin (number_too_large n ++ weight_outside (pos before) n) (natural n) (λ k. (0 < k) × (before + k ≤ WEIGHTS_MAX))
weight_twin before n = weight_of before WEIGHTS_MAX n.value n.at

-- ---- numbers with a sign

literal_of : (negative : Bool) (value : Option ℤ) (at : ℕ)
    → Twin (fault_where (not (is_between (neg_ℤ LITERAL_MAX) LITERAL_MAX (with_sign negative (certain_number value)))) rules.LiteralTooLarge at) (option_map (with_sign negative) value) IsLiteral
literal_of true None at = record { kept = λ e. cc; unbroken = λ y s q. cc }
literal_of false None at = record { kept = λ e. cc; unbroken = λ y s q. cc }
literal_of negative (Some n) at = record {
  kept = λ e. (with_sign negative n, refl, within (with_sign negative n) ((is_not (is_between (neg_ℤ LITERAL_MAX) LITERAL_MAX (with_sign negative n))).0 ((broken_not _ rules.LiteralTooLarge at).0 e)));
  unbroken = λ y s q. (broken_not _ rules.LiteralTooLarge at).1 ((is_not (is_between (neg_ℤ LITERAL_MAX) LITERAL_MAX (with_sign negative n))).1 (inside (with_sign negative n) (subst IsLiteral (sym (same_Some (with_sign negative n) y s)) q)));
}
  where
    within : (z : ℤ) → is_between (neg_ℤ LITERAL_MAX) LITERAL_MAX z ≡ true → IsLiteral z
    within z e = let p = (between (neg_ℤ LITERAL_MAX) LITERAL_MAX z).0 e in record { least = p.0; greatest = p.1 }

    inside : (z : ℤ) → IsLiteral z → is_between (neg_ℤ LITERAL_MAX) LITERAL_MAX z ≡ true
    inside z l = (between (neg_ℤ LITERAL_MAX) LITERAL_MAX z).1 (l.least, l.greatest)

pub literal_twin : (s : WrittenSigned) → Twin (literal_too_large s) (signed s) IsLiteral
literal_twin s = literal_of s.negative s.number.value s.at

-- a number that has a value counts as that
pub certain_is : (s : WrittenSigned) (z : ℤ) → signed s ≡ Some z → certain_signed s ≡ z
certain_is s z e = by_value s.number.value e
  where
    by_value : (value : Option ℤ) → option_map (with_sign s.negative) value ≡ Some z → with_sign s.negative (certain_number value) ≡ z
    by_value None e = cc
    by_value (Some n) e = same_Some (with_sign s.negative n) z e

pub in_order : (lo hi : WrittenSigned) (a b : ℤ) → signed lo ≡ Some a → signed hi ≡ Some b → empty_range lo hi ≡ [] ↔ (a ≤ℤ b)
in_order lo hi a b p q = fault_where-none (lt_z (certain_signed hi) (certain_signed lo)) rules.EmptyRange lo.at (rw (certain_is lo a p, certain_is hi b q) (ordered a b))
  where
    ordered : (a b : ℤ) → lt_z b a ≡ false ↔ (a ≤ℤ b)
    ordered a b = (λ e. grind (arith, ints), λ h. grind (arith, ints))

pub starts_inside : (lo hi s : WrittenSigned) (a b z : ℤ) → signed lo ≡ Some a → signed hi ≡ Some b → signed s ≡ Some z → initial_outside lo hi s ≡ [] ↔ (a ≤ℤ z) × (z ≤ℤ b)
starts_inside lo hi s a b z p q r = fault_where-none (not (is_between (certain_signed lo) (certain_signed hi) (certain_signed s))) rules.InitialOutside s.at (rw (certain_is lo a p, certain_is hi b q, certain_is s z r) inside)
  where
    inside : not (is_between a b z) ≡ false ↔ (a ≤ℤ z) × (z ≤ℤ b)
    inside = (λ e. (between a b z).0 ((is_not (is_between a b z)).0 e), λ h. (is_not (is_between a b z)).1 ((between a b z).1 h))

pub few_drawn : (lo hi : WrittenSigned) (a b : ℤ) → signed lo ≡ Some a → signed hi ≡ Some b → draw_outside lo hi ≡ [] ↔ (b <ℤ (a +ℤ pos WEIGHTS_MAX))
few_drawn lo hi a b p q = fault_where-none (le_z (certain_signed lo +ℤ pos WEIGHTS_MAX) (certain_signed hi)) rules.DrawOutside lo.at (rw (certain_is lo a p, certain_is hi b q) (below (a +ℤ pos WEIGHTS_MAX) b))
  where
    below : (c d : ℤ) → le_z c d ≡ false ↔ (d <ℤ c)
    below c d = (λ e. grind (arith, ints), λ h. grind (arith, ints))
