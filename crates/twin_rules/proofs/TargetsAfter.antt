-- Where no edge leads to a vertex, none does when two others are fused, but to the one in place of both.
use Rattle.std.proofs.Common.{◌≡◌, ℕ, ◌+◌, ◌<◌, ◌==◌, nat_lt, Bool, true, false, ◌&&◌, ◌||◌, cond, List, map, refl, sym, ◌∙◌, ap, ap₂, arith}
use Rattle.std.specs.List.{list_any}
use Rattle.std.proofs.lemmas.Bool.Decides.{nat_tests}
use Rattle.model_core.specs.EventGraph.{EventGraph, EventVertex, EventEdge}
use Rattle.model_core.specs.Run.Step.{vertex_at}
use Rattle.model_core.specs.Rules.Drop.{edge_renumbered}
use Rattle.model_core.specs.Rules.Merge.{leads_to}
use Rattle.model_core.specs.Rules.MarkedPlaces.{place_without}
use Rattle.model_core.specs.Rules.Fuse.{fused_place, fused}
use Rattle.model_core.proofs.EachOne.{either_false}
use Rattle.model_core.proofs.PlacesChanged.{different}
use Rattle.twin_rules.specs.declared.marks.Marks.{Marks}
use Rattle.twin_rules.specs.Inner.ComparedPairs.{place_before, some_leads}
use Rattle.twin_rules.specs.Inner.MarkedVertices.{has_mark}
use Rattle.twin_rules.specs.Inner.LedTo.{MarksTargets}
use Rattle.twin_rules.proofs.AlikeVertices.{AreAlike}
use Rattle.twin_rules.proofs.StillApart.{placed, places_same}
use Rattle.twin_rules.proofs.PairsStillApart.{stays-apart, and-back}
use Rattle.twin_rules.proofs.BarredAfter.{none-after, leads-after}

keep-elsewhere : (keep gone x : ℕ) → keep < gone → (keep == x) ≡ false → (keep == place_before gone x) ≡ false
keep-elsewhere keep gone x first apart = by (nat_lt x gone) refl where
  by : (b : Bool) → nat_lt x gone ≡ b → (keep == cond b x (x + 1)) ≡ false
  by true is = apart
  by false is = grind (arith, nat_tests)

module _ (g : EventGraph) (keep gone : ℕ) (are : AreAlike g keep gone) where
  abbrev f : ℕ → ℕ
  f = fused_place keep gone

  abbrev p : ℕ → ℕ
  p = place_without gone

  -- an edge that doesn't lead to a place other than `keep` doesn't lead there afterwards
  elsewhere : (x t : ℕ) → (x == gone) ≡ false → (keep == x) ≡ false → (t == x) ≡ false → (f t == p x) ≡ false
  elsewhere x t apart other none = by (t == gone) refl where
    by : (b : Bool) → (t == gone) ≡ b → (f t == p x) ≡ false
    by false stays = leads-after g keep gone are x apart t none stays
    by true is = ap (λ b. p (cond b keep t) == p x) is ∙ (places_same g keep gone are x x apart apart keep (different keep gone are.first) ∙ other)

  edges-elsewhere : (x : ℕ) → (x == gone) ≡ false → (keep == x) ≡ false → (es : List EventEdge) → list_any (leads_to x) es ≡ false → list_any (leads_to (p x)) (map (edge_renumbered f) es) ≡ false
  edges-elsewhere x apart other es none = none-after (edge_renumbered f) (leads_to x) (leads_to x) (leads_to (p x)) (λ e here too. elsewhere x e.target apart other here) es none none

  edges-there : (x : ℕ) → (x == gone) ≡ false → (es : List EventEdge) → list_any (leads_to x) es ≡ false → list_any (leads_to gone) es ≡ false → list_any (leads_to (p x)) (map (edge_renumbered f) es) ≡ false
  edges-there x apart es none none_too = none-after (edge_renumbered f) (leads_to x) (leads_to gone) (leads_to (p x)) (λ e here stays. leads-after g keep gone are x apart e.target here stays) es none none_too

  -- the edges of a vertex of the result
  edges-of : (x v : ℕ) → some_leads (fused g keep gone) v x ≡ list_any (leads_to (p (place_before gone x))) (map (edge_renumbered f) (vertex_at g (place_before gone v)).edges)
  edges-of x v =
      ap₂ (λ (k : ℕ) (w : EventVertex). list_any (leads_to k) w.edges) (sym (and-back gone x))
      (ap (vertex_at (fused g keep gone)) (sym (and-back gone v)) ∙ placed g keep gone are (place_before gone v) (stays-apart gone v))

  pub targets-after : (old new : Marks) → ((x : ℕ) → has_mark new x ≡ (has_mark old (place_before gone x) || (has_mark old gone && (keep == x)))) → MarksTargets g old → MarksTargets (fused g keep gone) new
  targets-after old new marked targets x unmarked v =
      let (was, no_more) = either_false (has_mark old (place_before gone x)) (has_mark old gone && (keep == x)) (sym (marked x) ∙ unmarked) in
      edges-of x v ∙ by (keep == x) refl was no_more where
        es : List EventEdge
        es = (vertex_at g (place_before gone v)).edges

        both-true : (b : Bool) → (b && true) ≡ false → b ≡ false
        both-true true e = e
        both-true false e = refl

        by : (b : Bool) → (keep == x) ≡ b → has_mark old (place_before gone x) ≡ false → (has_mark old gone && b) ≡ false → list_any (leads_to (p (place_before gone x))) (map (edge_renumbered f) es) ≡ false
        by false other was none = edges-elsewhere (place_before gone x) (stays-apart gone x) (keep-elsewhere keep gone x are.first other) es (targets (place_before gone x) was (place_before gone v))
        by true here was none = edges-there (place_before gone x) (stays-apart gone x) es (targets (place_before gone x) was (place_before gone v)) (targets gone (both-true (has_mark old gone) none) (place_before gone v))
