-- Places that targets name exist.
use Rattle.std.proofs.Common.{◌≡◌, ℕ, suc, ◌<◌, List, [], ◌∷◌, length, Option, Some, None, Ok, sym, ap, ◌∙◌, arith, All, IsTrue}
use Rattle.std.proofs.lemmas.List.{length-map}
use Rattle.std.proofs.lemmas.List.Elements.{All-cons}
use Rattle.model_core.specs.declared.model.Model.{Model}
use Rattle.model_core.specs.EventGraph.{EventGraph, Expression, Location}
use Rattle.model_core.specs.Run.State.{State, Place, in_range, cells_of}
use Rattle.model_core.specs.Run.Value.{OrFault, ◌>>=◌, each, value_of, indexed, place_at, place_of}
use Rattle.model_core.specs.Code.Views.{graph_of, variable_of}
use Rattle.model_core.proofs.Results.{bind_ok}
use Rattle.sig_expr.specs.Possible.{PossibleLocation}
use Rattle.sig_expr.specs.Inner.Placed.{DeclaredPlace}
use Rattle.run_laws.proofs.CellsThere.{indexed_is_declared, declared_is_there}

-- a declared place exists, of a variable that the state has
pub place_is_there : (m : Model) (s : State) (v k : ℕ) (p : Place) → IsTrue (in_range (graph_of m) s) → DeclaredPlace (graph_of m) p → record { variable = v; index = k } ≡ p → k < length (cells_of s v)
place_is_there m s v k p inside is seen =
    let here : DeclaredPlace (graph_of m) (record { variable = v; index = k }) = rw seen is in
    declared_is_there m s v k inside (omega (arith, here.declared, length-map m.vars variable_of)) here.inside

place_at-declared : (g : EventGraph) (s : State) (clk v : ℕ) (o : Option Expression) (p : Place) → v < length g.variables → place_at g s clk v o ≡ Ok p → DeclaredPlace g p
place_at-declared g s clk v None p below e =
    let here : Place = record { variable = v; index = 0 } in
    let same : here ≡ p = cc in
    rw (← same) (record { declared = below; inside = omega arith })
place_at-declared g s clk v (Some i) p below e =
    let (k, at_index, placed) = bind_ok (value_of g s clk i) (indexed g v) p e in
    let (same, inside) = indexed_is_declared g v k p (sym placed) in
    record { declared = rw same below; inside = rw same inside }

-- the place that a target names is declared
pub place_of-declared : (g : EventGraph) (s : State) (clk : ℕ) (l : Location) (p : Place) → PossibleLocation g l → place_of g s clk l ≡ Ok p → DeclaredPlace g p
place_of-declared g s clk l p possible e = place_at-declared g s clk l.variable l.index p possible.declared e

-- the places that the targets of a `set` name are declared
pub places_declared : (g : EventGraph) (s : State) (clk : ℕ) (ls : List Location) (ps : List Place) → All (PossibleLocation g) ls → each (place_of g s clk) ls ≡ Ok ps → All (DeclaredPlace g) ps
places_declared g s clk [] ps possible e =
    let none : [] ≡ ps = cc in
    λ k d below. absurd (omega (arith, below, ap length none))
places_declared g s clk (l ∷ ls) ps possible e =
    let (p, at_first, after_first) = bind_ok (place_of g s clk l) (λ p. each (place_of g s clk) ls >>= λ qs. Ok (p ∷ qs)) ps e in
    let (qs, at_rest, at_end) = bind_ok (each (place_of g s clk) ls) (λ qs. Ok (p ∷ qs)) ps after_first in
    let same : p ∷ qs ≡ ps = cc in
    rw (← same) (All-cons (DeclaredPlace g) p qs (place_of-declared g s clk l p (possible 0 l (omega arith)) at_first) (places_declared g s clk ls qs (λ k d below. possible (suc k) d (omega (arith, below))) at_rest))

-- as many as there are
pub each_long : {A B : Type 0} (f : A → OrFault B) (xs : List A) (ys : List B) → each f xs ≡ Ok ys → length ys ≡ length xs
each_long f [] ys e = let none : [] ≡ ys = cc in ap length (sym none)
each_long f (x ∷ xs) ys e =
    let (z, at_first, after_first) = bind_ok (f x) (λ z. each f xs >>= λ zs. Ok (z ∷ zs)) ys e in
    let (zs, at_rest, at_end) = bind_ok (each f xs) (λ zs. Ok (z ∷ zs)) ys after_first in
    let same : z ∷ zs ≡ ys = cc in
    ap length (sym same) ∙ ap suc (each_long f xs zs at_rest)
