-- The first part beyond a limit.
use Rattle.std.proofs.Common.{◌≡◌, ℕ, true, zero, suc, ◌<◌, ◌≤◌, List, [], ◌∷◌, length, get_or, map, Some, None, refl, arith}
use Rattle.std.specs.Prelude.{slice_get}
use Rattle.model_core.specs.declared.static_kind.StaticKind.TheVariants as rules
use Rattle.model_core.specs.Static.FaultOrder.{fault_where}
use Rattle.model_core.specs.Static.RuleTable.{too_many}

module _ {X W : Type 0} (w : X → W) (at : W → ℕ) where
  get_there : (xs : List X) (i : ℕ) (x : X) → i < length xs → x ≡ get_or xs i x → slice_get (map at (map w xs)) i ≡ Some (at (w x))
  get_there [] i x lt is = absurd (omega arith)
  get_there (y ∷ xs) zero x lt is = rw (← is) refl
  get_there (y ∷ xs) (suc i) x lt is = get_there xs i x (omega arith) is

  get_past : (xs : List X) (i : ℕ) → length xs ≤ i → slice_get (map at (map w xs)) i ≡ None
  get_past [] zero le = refl
  get_past [] (suc i) le = refl
  get_past (y ∷ xs) zero le = absurd (omega arith)
  get_past (y ∷ xs) (suc i) le = get_past xs i (omega arith)

  pub too_many_there : (xs : List X) (i : ℕ) (x : X) → i < length xs → x ≡ get_or xs i x → too_many i (map at (map w xs)) ≡ fault_where true rules.TooMany (at (w x))
  too_many_there xs i x lt is = rw (too_many, get_there xs i x lt is) refl

  pub too_many_past : (xs : List X) (i : ℕ) → length xs ≤ i → too_many i (map at (map w xs)) ≡ []
  too_many_past xs i le = rw (too_many, get_past xs i le) refl
