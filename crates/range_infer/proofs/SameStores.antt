-- Stores of values that fit are the same in a model and in one with narrower ranges.
use Rattle.std.proofs.Common.{◌≡◌, ℕ, true, ℤ, ◌≤ℤ◌, List, [], ◌∷◌, map, zip, Ok, refl, sym, ◌∙◌, ap, subst}
use Rattle.std.specs.List.{AllByRecursion, AllZip}
use Rattle.model_core.specs.declared.bounds.Bounds.{Bounds}
use Rattle.model_core.specs.EventGraph.{EventGraph, Variable, Expression}
use Rattle.model_core.specs.declared.model.Kind.{Kind}
use Rattle.model_core.specs.Run.State.{State, Place, variable_at, with_cell}
use Rattle.model_core.specs.Run.Value.{OrFault, ◌>>=◌, each, in_turn, value_of}
use Rattle.model_core.specs.Run.Changes.{kept, store}
use Rattle.model_core.specs.Static.HasKind.{HasKind}
use Rattle.model_core.specs.Rules.BoundsOf.{bounds_under}
use Rattle.model_core.specs.Rules.BoundsHold.{NumberIn}
use Rattle.model_core.proofs.Results.{bind_ok, bind_same}
use Rattle.model_core.specs.declared.var_range.VarRange.{VarRange}
use Rattle.model_core.specs.Ranges.OtherRanges.{model_with_ranges, range_at}
use Rattle.model_core.specs.Ranges.Refined.{refined}
use Rattle.model_core.specs.Ranges.Incoming.{assigned}
use Rattle.model_core.specs.Ranges.Inductive.{is_fixed, Fitting, HoldsIncoming}
use Rattle.range_infer.proofs.ModelWithRanges.{range_given}
use Rattle.range_infer.proofs.SameKept.{KeptLies, same_kept, kept_in_bounds, kept_as_declared}
use Rattle.range_infer.proofs.NarrowModels.{fits_everywhere}
use Rattle.std.proofs.Common.{arith}
use Rattle.std.proofs.lemmas.Int.{ints}

module _ (g : EventGraph) (ranges : List VarRange) (fitting : Fitting g ranges) where
  abbrev h : EventGraph
  h = model_with_ranges g ranges

  -- what the variable of a place keeps of a value lies in its range
  abbrev pub StoreFits : Place × ℤ → Type 0
  StoreFits (p, x) = KeptLies (variable_at g p.variable) (range_at ranges p.variable) x

  ordered : (v : ℕ) → (variable_at g v).lo ≤ℤ (variable_at g v).hi
  ordered v = let f = fits_everywhere g ranges fitting v in omega (arith, ints, f.ordered, f.inside.low, f.inside.high)

  pub same_store : (p : Place × ℤ) (s : State) → StoreFits p → store g p s ≡ store h p s
  same_store (p, x) s fits =
      let f = fits_everywhere g ranges fitting p.variable in
      ap (λ (r : OrFault ℤ). r >>= λ y. Ok (with_cell s p y))
      (same_kept (variable_at g p.variable) (range_at ranges p.variable) f.ordered f.inside x fits ∙ ap (λ (v : Variable). kept v x) (sym (range_given g.variables ranges fitting.as_many p.variable)))

  pub same_stores : (ps : List (Place × ℤ)) → AllByRecursion StoreFits ps → (s : State) → in_turn (store g) ps s ≡ in_turn (store h) ps s
  same_stores [] all s = refl
  same_stores (p ∷ ps) (fits, all) s =
      bind_same (store g p s) (in_turn (store g) ps) (in_turn (store h) ps) (λ t done. same_stores ps all t) ∙ ap (λ (r : OrFault State). r >>= in_turn (store h) ps) (same_store p s fits)

  -- a value in bounds whose variable holds what it keeps of them
  pub in_bounds_fits : (p : Place) (b : Bounds) (x : ℤ) → NumberIn b x → HoldsIncoming g ranges (record { variable = p.variable; bounds = b }) → StoreFits (p, x)
  in_bounds_fits p b x lies holds = kept_in_bounds (variable_at g p.variable) b (range_at ranges p.variable) (ordered p.variable) x lies holds

  -- any value fits a variable whose range stays
  pub fixed_fits : (p : Place) (x : ℤ) → is_fixed g p.variable ≡ true → StoreFits (p, x)
  fixed_fits p x is =
      let f = fits_everywhere g ranges fitting p.variable in
      subst (λ (r : VarRange). KeptLies (variable_at g p.variable) r x) (sym (f.fixed is)) (kept_as_declared (variable_at g p.variable) x (ordered p.variable))

  -- values of expressions, each stored at a place
  pub values_fit : (s : State) (clk : ℕ) (under : List Variable) → ((e : Expression) (k : Kind) (x : ℤ) → HasKind g.variables e k → value_of g s clk e ≡ Ok x → NumberIn (bounds_under refined under e) x) → (places : List Place) (es : List Expression) (ks : List Kind) (xs : List ℤ) → AllZip (HasKind g.variables) es ks → each (value_of g s clk) es ≡ Ok xs → AllByRecursion (HoldsIncoming g ranges) (assigned under (map (λ (p : Place). p.variable) places) es) → AllByRecursion StoreFits (zip places xs)
  values_fit s clk under sound [] es ks xs kinds done takes = tt
  values_fit s clk under sound (p ∷ places) [] ks [] kinds done takes = tt
  values_fit s clk under sound (p ∷ places) [] ks (x ∷ xs) kinds done takes = cc
  values_fit s clk under sound (p ∷ places) (e ∷ es) [] xs kinds done takes = absurd kinds
  values_fit s clk under sound (p ∷ places) (e ∷ es) (k ∷ ks) xs kinds done takes =
      let (y, first, later) = bind_ok (value_of g s clk e) _ xs done in
      let (ys, rest, end) = bind_ok (each (value_of g s clk) es) _ xs later in
      let same : y ∷ ys ≡ xs = cc in
      subst (λ (xs : List ℤ). AllByRecursion StoreFits (zip (p ∷ places) xs)) same
      (in_bounds_fits p (bounds_under refined under e) y (sound e k y kinds.0 first) takes.0, values_fit s clk under sound places es ks ys kinds.1 rest takes.1)
