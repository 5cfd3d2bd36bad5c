-- Places of vertices that haven't changed are passed over: for each place the next vertex that has, found from the last
-- place on.
use Rattle.std.proofs.Common.{◌≡◌, ◌≢◌, ◌⊎◌, inl, inr, ℕ, zero, suc, ◌+◌, ◌<◌, ◌≤◌, Bool, true, false, cond, List, get_or, set, length, refl, ◌∙◌, ap, subst, arith}
use Rattle.std.specs.Prelude.{replicate}
use Rattle.std.proofs.lemmas.List.{get_or-set_same, get_or-set_other, get_or_past}
use Rattle.sig_base.specs.declared.limits.TheConstants.{VERTICES_MAX}
use Rattle.twin_rules.specs.Inner.ComparedPairs.{has_changed}
use Rattle.twin_rules.proofs.NextPlaces.{first-or-after}

-- from this place on it is known where vertices have changed; `ahead` is the first of those
pub record SkipsFrom (changed : List Bool) (next : List ℕ) (from ahead : ℕ) : Type 0 where
  pub near : (k : ℕ) → from ≤ k → k < ahead → has_changed changed k ≡ false
  pub far : (v k : ℕ) → from ≤ v → v ≤ k → k < get_or next v v → has_changed changed k ≡ false

pub skips-nothing : (changed : List Bool) (next : List ℕ) (from : ℕ) → length next ≤ from → SkipsFrom changed next from from
skips-nothing changed next from past = record {
  near = λ k at less. absurd (omega (arith, at, less));
  far = λ v k at at_least less. let beyond : get_or next v v ≡ v = get_or_past next v v (omega (arith, past, at)) in absurd (omega (arith, beyond, at_least, less));
}

later-apart : (p v : ℕ) → p + 1 ≤ v → v ≢ p
later-apart p v later e = absurd (omega (arith, later, e))

pub one-before : (changed : List Bool) (next : List ℕ) (p ahead : ℕ) → p < length next → SkipsFrom changed next (p + 1) ahead → SkipsFrom changed (set next p (cond (has_changed changed p) p ahead)) p (cond (has_changed changed p) p ahead)
one-before changed next p ahead below skips = by (has_changed changed p) refl where
  by : (b : Bool) → has_changed changed p ≡ b → SkipsFrom changed (set next p (cond b p ahead)) p (cond b p ahead)
  by b is = record { near = near b is; far = far } where
    near : (b : Bool) → has_changed changed p ≡ b → (k : ℕ) → p ≤ k → k < cond b p ahead → has_changed changed k ≡ false
    near true is k at less = absurd (omega (arith, at, less))
    near false is k at less = either (first-or-after p k at) where
      either : (k ≡ p) ⊎ (p + 1 ≤ k) → has_changed changed k ≡ false
      either (inl same) = ap (has_changed changed) same ∙ is
      either (inr later) = skips.near k later less

    far : (v k : ℕ) → p ≤ v → v ≤ k → k < get_or (set next p (cond b p ahead)) v v → has_changed changed k ≡ false
    far v k at at_least less = either (first-or-after p v at) where
      either : (v ≡ p) ⊎ (p + 1 ≤ v) → has_changed changed k ≡ false
      either (inl same) =
          let there : get_or (set next p (cond b p ahead)) v v ≡ cond b p ahead = ap (λ j. get_or (set next p (cond b p ahead)) j j) same ∙ get_or-set_same next p (cond b p ahead) p below in
          near b is k (omega (arith, at, at_least)) (subst (λ n. k < n) there less)
      either (inr later) =
          let there : get_or (set next p (cond b p ahead)) v v ≡ get_or next v v = get_or-set_other next p v (cond b p ahead) v (later-apart p v later) in
          skips.far v k later at_least (subst (λ n. k < n) there less)

pub either-small : (b : Bool) (place ahead : ℕ) → place ≤ VERTICES_MAX → ahead ≤ VERTICES_MAX → cond b place ahead ≤ VERTICES_MAX
either-small true place ahead small small_too = small
either-small false place ahead small small_too = small_too

-- ---- at first

pub all-changed : (n k : ℕ) → get_or (replicate n true) k true ≡ true
all-changed zero k = refl
all-changed (suc n) zero = refl
all-changed (suc n) (suc k) = all-changed n k

within-none : (n k : ℕ) → get_or (replicate n 0) k k ≤ k
within-none n k = zeros n k k (omega arith) where
  zeros : (n k d : ℕ) → d ≤ d → get_or (replicate n 0) k d ≤ d
  zeros zero k d e = e
  zeros (suc n) zero d e = omega arith
  zeros (suc n) (suc k) d e = zeros n k d e

pub none-skipped : (changed : List Bool) (n v k : ℕ) → v ≤ k → k < get_or (replicate n 0) v v → has_changed changed k ≡ false
none-skipped changed n v k at_least less = let few = within-none n v in absurd (omega (arith, at_least, less, few))
