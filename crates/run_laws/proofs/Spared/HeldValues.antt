-- The value of an expression stays where each variable that it reads holds what it held.
use Rattle.std.proofs.Common.{◌≡◌, ℕ, ℤ, pos, neg_ℤ, ◌-ℤ◌, cond, List, [], ◌∷◌, ◌++◌, slice_index_or, Option, Some, None, Ok, refl, sym, ◌∙◌, ap, ap₂, subst}
use Rattle.std.specs.List.{AllByRecursion}
use Rattle.model_core.specs.EventGraph.{EventGraph, Expression, Number, Truth, Clock, Scalar, Cell, Negative, Not, Binary, If, Location}
use Rattle.model_core.specs.Run.State.{State, Place, cells_of, cell_at}
use Rattle.model_core.specs.Run.Value.{OrFault, ◌>>=◌, each, exact, decided, operate, indexed, value_of, place_at, place_of, is_one}
use Rattle.model_core.specs.Rules.Uses.{variables_in, index_reads, location_reads}
use Rattle.model_core.proofs.Results.{bind_ok, bind_same}
use Rattle.run_laws.proofs.PlaceVariables.{indexed-variable}
use Rattle.model_core.proofs.EachOne.{every-front, every-after}

-- the two states hold the same there
abbrev pub Holds : State → State → ℕ → Type 0
Holds s t v = cells_of t v ≡ cells_of s v

module _ (g : EventGraph) (s t : State) (clk : ℕ) where
  abbrev AllHold : List ℕ → Type 0
  AllHold vs = AllByRecursion (Holds s t) vs

  pub value-held : (e : Expression) → AllHold (variables_in e) → value_of g s clk e ≡ value_of g t clk e
  value-held (Number n) reads = refl
  value-held (Truth b) reads = refl
  value-held Clock reads = refl
  value-held (Scalar v) (same, none) = ap (λ (cells : List ℤ). let r : OrFault ℤ = Ok (slice_index_or cells 0 (pos 0)) in r) (sym same)
  value-held (Cell v e) (same, reads) =
      ap (λ (r : OrFault ℤ). r >>= indexed g v >>= λ p. Ok (cell_at s p)) (value-held e reads) ∙
      bind_same (value_of g t clk e >>= indexed g v) _ _ (λ p found.
      let (x, is, then) = bind_ok (value_of g t clk e) (indexed g v) p found in
      ap (λ (cells : List ℤ). let r : OrFault ℤ = Ok (slice_index_or cells p.index (pos 0)) in r) (subst (λ v. cells_of s v ≡ cells_of t v) (sym (indexed-variable g v x p then)) (sym same)))
  value-held (Negative e) reads = ap (λ (r : OrFault ℤ). r >>= λ a. exact (neg_ℤ a)) (value-held e reads)
  value-held (Not e) reads = ap (λ (r : OrFault ℤ). r >>= λ a. Ok (pos 1 -ℤ a)) (value-held e reads)
  value-held (Binary op a b) reads =
      ap₂ (λ (x y : OrFault ℤ). x >>= λ v. cond (decided op v) (Ok v) (y >>= operate op v)) (value-held a (every-front (Holds s t) (variables_in a) (variables_in b) reads)) (value-held b (every-after (Holds s t) (variables_in a) (variables_in b) reads))
  value-held (If c a b) reads =
      let front = every-front (Holds s t) (variables_in c ++ variables_in a) (variables_in b) reads in
      ap₂ (λ (r x : OrFault ℤ). r >>= λ v. cond (is_one v) x (value_of g s clk b)) (value-held c (every-front (Holds s t) (variables_in c) (variables_in a) front)) (value-held a (every-after (Holds s t) (variables_in c) (variables_in a) front)) ∙
      ap (λ (y : OrFault ℤ). value_of g t clk c >>= λ v. cond (is_one v) (value_of g t clk a) y) (value-held b (every-after (Holds s t) (variables_in c ++ variables_in a) (variables_in b) reads))

  pub values-held : (es : List Expression) → AllByRecursion (λ e. AllHold (variables_in e)) es → each (value_of g s clk) es ≡ each (value_of g t clk) es
  values-held [] reads = refl
  values-held (e ∷ es) (now, reads) =
      ap₂ (λ (r : OrFault ℤ) (q : OrFault (List ℤ)). r >>= λ x. q >>= λ xs. Ok (x ∷ xs)) (value-held e now) (values-held es reads)

  place-held : (v : ℕ) (i : Option Expression) → AllHold (index_reads i) → place_at g s clk v i ≡ place_at g t clk v i
  place-held v None reads = refl
  place-held v (Some e) reads = ap (λ (r : OrFault ℤ). r >>= indexed g v) (value-held e reads)

  pub location-held : (l : Location) → AllHold (location_reads l) → place_of g s clk l ≡ place_of g t clk l
  location-held l reads = place-held l.variable l.index reads

  pub locations-held : (ls : List Location) → AllByRecursion (λ l. AllHold (location_reads l)) ls → each (place_of g s clk) ls ≡ each (place_of g t clk) ls
  locations-held [] reads = refl
  locations-held (l ∷ ls) (now, reads) =
      ap₂ (λ (r : OrFault Place) (q : OrFault (List Place)). r >>= λ x. q >>= λ xs. Ok (x ∷ xs)) (location-held l now) (locations-held ls reads)
