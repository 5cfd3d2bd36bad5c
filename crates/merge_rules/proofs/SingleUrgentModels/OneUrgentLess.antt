-- A merge takes one vertex's plain urgent edge, and brings no other.
use Rattle.std.proofs.Common.{◌≡◌, ℕ, zero, suc, ◌+◌, ◌<◌, ◌==◌, Bool, true, false, ◌&&◌, cond, List, [], ◌∷◌, ◌++◌, length, Option, Some, None, is_some, is_none, refl, sym, ap, ap₂, ◌∙◌, arith}
use Rattle.std.specs.Prelude.{count_by, slice_index_or}
use Rattle.std.specs.List.{AllByRecursion, position_from}
use Rattle.std.proofs.lemmas.List.Sums.{sum_by-cons}
use Rattle.model_core.specs.EventGraph.{EventEdge, EventVertex, EventGraph}
use Rattle.model_core.specs.Run.Step.{no_vertex, vertex_at}
use Rattle.model_core.specs.Rules.Conditions.{first_failed}
use Rattle.model_core.specs.Rules.PlacedEdges.{with_place}
use Rattle.model_core.specs.Rules.Settle.{is_literal_true}
use Rattle.model_core.specs.Rules.UrgentEdges.{is_urgent, is_plain, plain_urgent}
use Rattle.model_core.specs.Rules.Merge.{merge_conditions, merged_with, merged}
use Rattle.model_core.proofs.AllHold.{every-holds}
use Rattle.merge_rules.specs.UrgentVertices.{has_plain, plain_count}
use Rattle.merge_rules.proofs.OneStepForTwo.MergeHolds.{conditions_hold, is_below}
use Rattle.merge_rules.proofs.OneStepForTwo.MergeResult.{joined_is}

abbrev counts : EventVertex → ℕ
counts v = cond (has_plain v) 1 0

some_if : (b : Bool) (o : Option ℕ) → is_some (cond b o None) ≡ (b && is_some o)
some_if true o = refl
some_if false o = refl

none-some : {A : Type 0} (o : Option A) → is_none o ≡ true → is_some o ≡ false
none-some None e = refl
none-some (Some x) e = cc

-- whether one is found doesn't go by where the places begin
found-anywhere : (n m : ℕ) (es : List EventEdge) → is_some (position_from is_plain n es) ≡ is_some (position_from is_plain m es)
found-anywhere n m [] = refl
found-anywhere n m (e ∷ es) = one (is_plain e) (found-anywhere (n + 1) (m + 1) es) where
  one : (b : Bool) → is_some (position_from is_plain (n + 1) es) ≡ is_some (position_from is_plain (m + 1) es) → is_some (cond b (Some n) (position_from is_plain (n + 1) es)) ≡ is_some (cond b (Some m) (position_from is_plain (m + 1) es))
  one true later = refl
  one false later = later

-- after edges that aren't urgent the plain urgent edge is the one that it is without them
module _ (ys : List EventEdge) where
  count-after : (xs : List EventEdge) → AllByRecursion (λ e. is_urgent e ≡ false) xs → count_by is_urgent (xs ++ ys) ≡ count_by is_urgent ys
  count-after [] calm = refl
  count-after (x ∷ xs) calm =
      let here : count_by is_urgent (x ∷ (xs ++ ys)) ≡ cond (is_urgent x) 1 0 + count_by is_urgent (xs ++ ys) = sum_by-cons (λ e. cond (is_urgent e) 1 0) x (xs ++ ys) in
      let aside : cond (is_urgent x) 1 0 ≡ 0 = ap (λ b. cond {A = ℕ} b 1 0) calm.0 in
      let later = count-after xs calm.1 in
      omega (arith, here, aside, later)

  found-after : (n : ℕ) (xs : List EventEdge) → AllByRecursion (λ e. is_urgent e ≡ false) xs → is_some (position_from is_plain n (xs ++ ys)) ≡ is_some (position_from is_plain n ys)
  found-after n [] calm = refl
  found-after n (x ∷ xs) calm =
      ap (λ b. is_some (cond (b && is_literal_true x.condition) (Some n) (position_from is_plain (n + 1) (xs ++ ys)))) calm.0
      ∙ found-after (n + 1) xs calm.1 ∙ found-anywhere (n + 1) n ys

  plain-after : (xs : List EventEdge) → AllByRecursion (λ e. is_urgent e ≡ false) xs → is_some (cond (count_by is_urgent (xs ++ ys) == 1) (position_from is_plain 0 (xs ++ ys)) None) ≡ is_some (cond (count_by is_urgent ys == 1) (position_from is_plain 0 ys) None)
  plain-after xs calm =
      some_if (count_by is_urgent (xs ++ ys) == 1) (position_from is_plain 0 (xs ++ ys))
      ∙ ap₂ (λ n b. (n == 1) && b) (count-after xs calm) (found-after 0 xs calm)
      ∙ sym (some_if (count_by is_urgent ys == 1) (position_from is_plain 0 ys))

-- the vertex at a place loses its plain urgent edge
count-placed : (f : EventVertex → EventVertex) (vs : List EventVertex) (k : ℕ) → k < length vs → has_plain (slice_index_or vs k no_vertex) ≡ true → has_plain (f (slice_index_or vs k no_vertex)) ≡ false → (length (with_place f k vs) ≡ length vs) × (suc (count_by has_plain (with_place f k vs)) ≡ count_by has_plain vs)
count-placed f [] k below had has = absurd (omega (arith, below))
count-placed f (v ∷ vs) zero below had has =
    let here = sum_by-cons counts v vs in
    let there = sum_by-cons counts (f v) vs in
    let one : counts v ≡ 1 = ap (λ b. cond b 1 0) had in
    let no : counts (f v) ≡ 0 = ap (λ b. cond b 1 0) has in
    (refl, omega (arith, here, there, one, no))
count-placed f (v ∷ vs) (suc k) below had has =
    let (long, fewer) = count-placed f vs k (omega (arith, below)) had has in
    let here = sum_by-cons counts v vs in
    let there = sum_by-cons counts v (with_place f k vs) in
    (ap suc long, omega (arith, here, there, fewer))

-- the first of a merge has none afterwards
pub plain_gone : (g : EventGraph) (first second : ℕ) → first_failed (merge_conditions g first second) ≡ None → has_plain (merged_with (vertex_at g second) (vertex_at g first)) ≡ false
plain_gone g first second holds =
    let a = vertex_at g first in
    let b = vertex_at g second in
    let p = (conditions_hold g first second holds).edge in
    let none : has_plain b ≡ false = none-some (plain_urgent b) (every-holds (merge_conditions g first second) holds).1.0 in
    ap has_plain (joined_is a b second p) ∙ plain-after b.edges (p.before ++ p.after) p.calm ∙ none

pub one_urgent_less : (g : EventGraph) (first second : ℕ) → first_failed (merge_conditions g first second) ≡ None
    → (length (merged g first second).vertices ≡ length g.vertices) × (suc (plain_count (merged g first second).vertices) ≡ plain_count g.vertices)
one_urgent_less g first second holds =
    let a = vertex_at g first in
    let h = conditions_hold g first second holds in
    let had : has_plain a ≡ true = ap is_some h.edge.is in
    count-placed (merged_with (vertex_at g second)) g.vertices first (is_below first (length g.vertices) h.exists) had (plain_gone g first second holds)
