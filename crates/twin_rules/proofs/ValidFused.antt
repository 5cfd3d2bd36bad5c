-- The result of fusing a valid model can be written and keeps the static rules.
use Rattle.std.proofs.Common.{◌≡◌, ℕ, zero, suc, ◌-◌, ◌<◌, ◌≤◌, ◌==◌, Bool, true, false, cond, List, [], ◌∷◌, map, length, slice_get, slice_index_or, Some, refl, sym, ap, arith, ◌∙◌}
use Rattle.std.specs.List.{remove}
use Rattle.std.proofs.lemmas.List.{length-map}
use Rattle.std.proofs.lemmas.List.Edits.{length-remove}
use Rattle.std.proofs.lemmas.Bool.{eqb-true}
use Rattle.sig_base.specs.declared.limits.TheConstants.{TEXT_MAX}
use Rattle.model_core.specs.EventGraph.{EventGraph, EventVertex, WatchedVertex}
use Rattle.model_core.specs.Run.Step.{no_vertex}
use Rattle.model_core.specs.Text.Canonical.{canonical}
use Rattle.model_core.specs.Text.Spellable.{IsNonEmpty, IsSpellable}
use Rattle.model_core.specs.Static.OwnRules.{parameters_of, KeepsStaticRules}
use Rattle.model_core.specs.Rules.Drop.{vertex_renumbered}
use Rattle.model_core.proofs.Among.{of-among}
use Rattle.model_core.proofs.Images.{image-there, map-remove}
use Rattle.model_core.proofs.SomeOfAList.{SomeOf, nothing, with_it, without, some-all}
use Rattle.round_trip.proofs.FewerVertices.{Stay, kept-spellable, kept-parts}
use Rattle.model_core.specs.Rules.Fuse.{standing_for, fused_place, fused}
use Rattle.model_core.proofs.FusedPlaces.{Other, fused-get, fused-below, fused-apart}
use Rattle.twin_rules.proofs.AlikeVertices.{AreAlike}
use Rattle.run_laws.proofs.MappedVertices.{WatchedAreApart}
use Rattle.twin_rules.proofs.FusedRuns.{watched-other}

-- ---- lists

pub some-remove : {A : Type 0} (xs : List A) (k : ℕ) → SomeOf (remove xs k) xs
some-remove [] zero = nothing
some-remove [] (suc k) = nothing
some-remove (x ∷ xs) zero = without x (some-all xs)
some-remove (x ∷ xs) (suc k) = with_it x (some-remove xs k)

has-some : {A : Type 0} (xs : List A) → 0 < length xs → IsNonEmpty xs
has-some [] some = absurd (omega (arith, some))
has-some (x ∷ xs) some = tt

-- ---- the model without one of two vertices that do the same

module _ (g : EventGraph) (keep gone : ℕ) (are : AreAlike g keep gone) where
  abbrev h : EventGraph
  h = fused g keep gone

  abbrev f : ℕ → ℕ
  f = fused_place keep gone

  abbrev kept : List EventVertex
  kept = remove g.vertices gone

  pub length_h : length h.vertices ≡ length g.vertices - 1
  length_h =
      let a = length-map kept (vertex_renumbered f) in
      let b = length-remove g.vertices gone are.within in
      omega (arith, a, b)

  -- ---- what each vertex takes

  there_at : (vs : List EventVertex) (k : ℕ) (ps : List ℕ) → k < length vs → (slice_index_or vs k no_vertex).parameters ≡ ps → slice_get (map (λ (v : EventVertex). v.parameters) vs) k ≡ Some ps
  there_at [] k ps below is = absurd (omega (arith, below))
  there_at (v ∷ vs) zero ps below is = ap Some is
  there_at (v ∷ vs) (suc k) ps below is = there_at vs k ps (omega (arith, below)) is

  -- the vertex that is kept takes what the one takes that is gone
  takes_as : (k : ℕ) (ps : List ℕ) → slice_get (parameters_of g) k ≡ Some ps → slice_get (parameters_of g) (standing_for keep gone k) ≡ Some ps
  takes_as k ps is = by (k == gone) refl where
    by : (b : Bool) → (k == gone) ≡ b → slice_get (parameters_of g) (cond b keep k) ≡ Some ps
    by true same =
        let at_gone : slice_get (parameters_of g) gone ≡ Some ps = ap (slice_get (parameters_of g)) (sym (eqb-true k gone same)) ∙ is in
        there_at g.vertices keep ps (let a = are.first in let b = are.within in omega (arith, a, b)) (are.parameters ∙ image-there (λ (v : EventVertex). v.parameters) g.vertices gone no_vertex ps at_gone)
    by false apart = is

  takes_same : (k : ℕ) (ps : List ℕ) → slice_get (parameters_of g) k ≡ Some ps → slice_get (map (λ (v : EventVertex). v.parameters) kept) (f k) ≡ Some ps
  takes_same k ps is = ap (λ (all : List (List ℕ)). slice_get all (f k)) (map-remove (λ (v : EventVertex). v.parameters) g.vertices gone) ∙ (fused-get keep gone are.first (parameters_of g) k ∙ takes_as k ps is)

  -- ---- it can be written, and keeps the rules

  -- edges may lead anywhere
  abbrev Anywhere : ℕ → Type 0
  Anywhere v = Unit {0}

  stay : Stay g kept f Anywhere (Other keep gone are.first)
  stay = record {
    some = some-remove g.vertices gone;
    has_one = has-some kept (let is = length-remove g.vertices gone are.within in let a = are.first in let b = are.within in omega (arith, is, a, b));
    edges = λ v there e among. tt;
    watched = λ v there. (tt, of-among (WatchedAreApart (Other keep gone are.first)) g.watch (WatchedVertex v) (watched-other g keep gone are) there);
    within = λ v any below. let is = length-remove g.vertices gone are.within in let small = fused-below keep gone are.first v (length g.vertices) below are.within in omega (arith, is, small);
    takes = λ v ps any is. takes_same v ps is;
    apart = λ v w a b. fused-apart keep gone are.first w b v;
  }

  pub fused-spellable : IsSpellable g → IsSpellable h
  fused-spellable s = kept-spellable g kept f Anywhere (Other keep gone are.first) stay s

  pub fused-rules : length (canonical h) ≤ TEXT_MAX → KeepsStaticRules g → KeepsStaticRules h
  fused-rules short k = record { parts = kept-parts g kept f Anywhere (Other keep gone are.first) stay k.parts; few_cells = k.few_cells; short = short }
