-- Lists of which some elements may be left out: those of which something else is known.
use Rattle.std.proofs.Common.{◌≡◌, ◌⊎◌, inl, inr, Bool, true, false, List, [], ◌∷◌, ◌++◌, refl}
use Rattle.std.specs.Prelude.{filter}
use Rattle.std.specs.List.{flat_map}
use Rattle.model_core.proofs.Among.{Among, among-front, among-back, among-either, among-filter}
use Rattle.var_slicing.proofs.LeadingLaws.{among-filtered}

module _ {A : Type 0} (P : A → Type 0) where
  -- of each element P holds, or it is among the fewer ones, and those are elements
  abbrev pub LeavesOut : List A → List A → Type 0
  LeavesOut xs fewer = ((x : A) → Among x xs → P x ⊎ Among x fewer) × ((x : A) → Among x fewer → Among x xs)

  pub left-joined : (xs fewer ys less : List A) → LeavesOut xs fewer → LeavesOut ys less → LeavesOut (xs ++ ys) (fewer ++ less)
  left-joined xs fewer ys less front back = (to, from) where
    to : (x : A) → Among x (xs ++ ys) → P x ⊎ Among x (fewer ++ less)
    to x h = elim (among-either xs ys x h) [
      | inl here ↦ elim (front.0 x here) [ inl leads ↦ inl leads | inr stays ↦ inr (among-front fewer less x stays) ]
      | inr there ↦ elim (back.0 x there) [ inl leads ↦ inl leads | inr stays ↦ inr (among-back fewer less x stays) ]
    ]

    from : (x : A) → Among x (fewer ++ less) → Among x (xs ++ ys)
    from x h = elim (among-either fewer less x h) [
      | inl here ↦ among-front xs ys x (front.1 x here)
      | inr there ↦ among-back xs ys x (back.1 x there)
    ]

  pub left-each : {B : Type 0} (f h : B → List A) → ((y : B) → LeavesOut (f y) (h y)) → (ys : List B) → LeavesOut (flat_map f ys) (flat_map h ys)
  left-each f h each [] = (λ x none. absurd none, λ x none. absurd none)
  left-each f h each (y ∷ ys) = left-joined (f y) (h y) (flat_map f ys) (flat_map h ys) (each y) (left-each f h each ys)

  pub left-filtered : (test : A → Bool) → ((x : A) → test x ≡ false → P x) → (xs : List A) → LeavesOut xs (filter test xs)
  left-filtered test leaves xs = (to, λ x h. (among-filtered test xs x h).0) where
    to : (x : A) → Among x xs → P x ⊎ Among x (filter test xs)
    to x h = by (test x) refl where
      by : (b : Bool) → test x ≡ b → P x ⊎ Among x (filter test xs)
      by true passes = inr (among-filter test xs x h passes)
      by false fails = inl (leaves x fails)
