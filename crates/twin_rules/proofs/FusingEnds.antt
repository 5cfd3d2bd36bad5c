-- Fusing the first twins again and again ends, and leads to one graph.
use Rattle.std.proofs.Common.{◌≡◌, ℕ, zero, suc, ◌<◌, length, Option, Some, None, refl, sym, ◌∙◌, ap, subst, arith}
use Rattle.model_core.specs.declared.model.Model.{Model}
use Rattle.model_core.specs.EventGraph.{EventGraph}
use Rattle.model_core.specs.Code.Views.{graph_of}
use Rattle.model_core.specs.Rules.Conditions.{first_failed}
use Rattle.model_core.specs.Rules.Fuse.{fuse_conditions, fused, first_twins}
use Rattle.model_core.specs.Rules.Fuse.{Fused, no_twins, fuse_first}
use Rattle.twin_rules.proofs.AlikeVertices.{conditions_say}
use Rattle.twin_rules.proofs.FirstTwins.{first-are-twins, length_of}
use Rattle.twin_rules.proofs.ValidFused.{length_h}

pub fewer-vertices : (g : EventGraph) (keep gone : ℕ) → first_twins g ≡ Some (keep, gone) → length (fused g keep gone).vertices < length g.vertices
fewer-vertices g keep gone is =
    let are = conditions_say g keep gone (first-are-twins g keep gone is) in
    let long = length_h g keep gone are.alike in
    let some = are.alike.within in omega (arith, long, some)

-- of a model of the code
pub vertex-there : (m : Model) (keep gone : ℕ) → first_twins (graph_of m) ≡ Some (keep, gone) → gone < length m.vertices
vertex-there m keep gone found = subst (λ n. gone < n) (length_of m) (conditions_say (graph_of m) keep gone (first-are-twins (graph_of m) keep gone found)).alike.within

pub vertex-less : (m next : Model) (keep gone : ℕ) → first_twins (graph_of m) ≡ Some (keep, gone) → graph_of next ≡ fused (graph_of m) keep gone → length next.vertices < length m.vertices
vertex-less m next keep gone found is =
    let less = fewer-vertices (graph_of m) keep gone found in
    let a = length_of m in
    let b = length_of next in
    let same = ap (λ (g : EventGraph). length g.vertices) is in
    omega (arith, less, a, b, same)

ends-within : (n : ℕ) (g : EventGraph) → length g.vertices < n → (h : EventGraph) × Fused g h
ends-within zero g few = absurd (omega (arith, few))
ends-within (suc n) g few = by (first_twins g) refl (ends-within n) where
  by : (o : Option (ℕ × ℕ)) → first_twins g ≡ o → ((k : EventGraph) → length k.vertices < n → (h : EventGraph) × Fused k h) → (h : EventGraph) × Fused g h
  by None none later = (g, no_twins none)
  by (Some (keep, gone)) found later =
      let less = fewer-vertices g keep gone found in
      let (h, reached) = later (fused g keep gone) (omega (arith, few, less)) in
      (h, fuse_first keep gone found reached)

pub fusing-ends : (g : EventGraph) → (h : EventGraph) × Fused g h
fusing-ends g = ends-within (suc (length g.vertices)) g (omega arith)

pub none-left : {g h : EventGraph} → Fused g h → first_twins h ≡ None
none-left (no_twins none) = none
none-left (fuse_first keep gone found later) = none-left later

pub fusing-determined : {g h k : EventGraph} → Fused g h → Fused g k → h ≡ k
fusing-determined (no_twins none) (no_twins none_too) = refl
fusing-determined (no_twins none) (fuse_first keep gone found later) = let no = sym none ∙ found in cc
fusing-determined (fuse_first keep gone found later) (no_twins none) = let no = sym none ∙ found in cc
fusing-determined {g} {h} {k} (fuse_first keep gone found later) (fuse_first keep_too gone_too found_too later_too) =
    let both : Some (keep_too, gone_too) ≡ Some (keep, gone) = sym found_too ∙ found in
    let same : (keep_too, gone_too) ≡ (keep, gone) = cc in
    fusing-determined later (subst (λ (p : ℕ × ℕ). Fused (fused g p.0 p.1) k) same later_too)

-- what each fusing keeps is kept, and what holds between a graph and its fused one holds along the way
pub along : (Ok : EventGraph → Type 0) (R : EventGraph → EventGraph → Type 0) → ((g : EventGraph) → R g g) → ((g h k : EventGraph) → R g h → R h k → R g k) → ((g : EventGraph) (keep gone : ℕ) → Ok g → first_failed (fuse_conditions g keep gone) ≡ None → Ok (fused g keep gone) × R g (fused g keep gone)) → {g h : EventGraph} → Ok g → Fused g h → Ok h × R g h
along Ok R refl_R trans_R one {g} ok (no_twins none) = (ok, refl_R g)
along Ok R refl_R trans_R one {g} {h} ok (fuse_first keep gone found later) =
    let (ok_too, here) = one g keep gone ok (first-are-twins g keep gone found) in
    let (ok_end, there) = along Ok R refl_R trans_R one ok_too later in
    (ok_end, trans_R g (fused g keep gone) h here there)
