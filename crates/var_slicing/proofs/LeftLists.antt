-- What is left of lists where some variables go, one element after the other.
use Rattle.std.proofs.Common.{◌≡◌, ℕ, zero, suc, ◌<◌, Bool, true, false, cond, List, [], ◌∷◌, ◌++◌, map, drop, length, get_or, slice_get, Some, refl, sym, ap, ap₂, ◌∙◌, arith}
use Rattle.model_core.specs.declared.vertex.Target.{Target}
use Rattle.model_core.specs.EventGraph.{Expression, Location}
use Rattle.model_core.specs.Rules.MarkedPlaces.{rank, is_marked}
use Rattle.model_core.specs.Rules.Slice.{expression_renumbered, location_renumbered, items_where_marked, sliced_values, sliced_parameters, sliced_targets}
use Rattle.model_core.specs.Code.Views.{location_of}
use Rattle.var_slicing.specs.Inner.Beside.{keeps_beside}

-- ---- an element that stays or goes

first_same : {A : Type 0} {b c : Bool} {x y : A} (rest : List A) → b ≡ c → x ≡ y → cond b (x ∷ []) [] ++ rest ≡ cond c (y ∷ []) [] ++ rest
first_same {A} rest same is = ap₂ (λ (b : Bool) (x : A). cond b (x ∷ []) [] ++ rest) same is

first_or_none : {A : Type 0} (b : Bool) (x : A) (xs : List A) → cond b (x ∷ xs) xs ≡ cond b (x ∷ []) [] ++ xs
first_or_none true x xs = refl
first_or_none false x xs = refl

-- ---- values beside variables

values-first : (marks : List Bool) (vars : List ℕ) (i : ℕ) (x : Expression) (rest : List Expression) → sliced_values marks (drop i vars) (x ∷ rest) ≡ cond (keeps_beside marks vars i) (expression_renumbered (rank marks) x ∷ []) [] ++ sliced_values marks (drop (suc i) vars) rest
values-first marks [] zero x rest = refl
values-first marks [] (suc i) x rest = refl
values-first marks (v ∷ vs) zero x rest = tested (is_marked marks v) where
  tested : (b : Bool) → map (expression_renumbered (rank marks)) (cond b (x ∷ items_where_marked marks vs rest) (items_where_marked marks vs rest)) ≡ cond b (expression_renumbered (rank marks) x ∷ []) [] ++ sliced_values marks vs rest
  tested true = refl
  tested false = refl
values-first marks (v ∷ vs) (suc i) x rest = values-first marks vs i x rest

pub values-at : (marks : List Bool) (vars : List ℕ) (i : ℕ) (x y : Expression) (b : Bool) → b ≡ keeps_beside marks vars i → y ≡ expression_renumbered (rank marks) x → (rest : List Expression) → sliced_values marks (drop i vars) (x ∷ rest) ≡ cond b (y ∷ []) [] ++ sliced_values marks (drop (suc i) vars) rest
values-at marks vars i x y b stays is rest = values-first marks vars i x rest ∙ first_same _ (sym stays) (sym is)

pub values-none : (marks : List Bool) (vars : List ℕ) → sliced_values marks vars [] ≡ []
values-none marks [] = refl
values-none marks (v ∷ vs) = refl

-- the variable of a target
pub variable_there : (ts : List Target) (k : ℕ) (t : Target) → k < length ts → t ≡ get_or ts k t → slice_get (map (λ (l : Location). l.variable) (map location_of ts)) k ≡ Some t.var
variable_there [] k t there is = absurd (omega arith)
variable_there (u ∷ ts) zero t there is = ap (λ (x : Target). Some x.var) (sym is)
variable_there (u ∷ ts) (suc k) t there is = variable_there ts k t (omega arith) is

-- ---- parameters and targets

pub parameters-at : (marks : List Bool) (v r : ℕ) (b : Bool) → b ≡ is_marked marks v → r ≡ rank marks v → (rest : List ℕ) → sliced_parameters marks (v ∷ rest) ≡ cond b (r ∷ []) [] ++ sliced_parameters marks rest
parameters-at marks v r b stays is rest = first_or_none (is_marked marks v) (rank marks v) (sliced_parameters marks rest) ∙ first_same _ (sym stays) (sym is)

pub targets-at : (marks : List Bool) (l m : Location) (b : Bool) → b ≡ is_marked marks l.variable → m ≡ location_renumbered (rank marks) l → (rest : List Location) → sliced_targets marks (l ∷ rest) ≡ cond b (m ∷ []) [] ++ sliced_targets marks rest
targets-at marks l m b stays is rest = first_or_none (is_marked marks l.variable) (location_renumbered (rank marks) l) (sliced_targets marks rest) ∙ first_same _ (sym stays) (sym is)
