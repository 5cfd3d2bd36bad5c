-- Each variable that is left after a round was declared before it, with the same kind and size.
use Rattle.std.proofs.Common.{◌≡◌, ℕ, zero, suc, Bool, true, false, cond, List, [], ◌∷◌, length, Option, Some, None, refl, ap, subst, ◌∙◌}
use Rattle.std.specs.Prelude.{slice_get}
use Rattle.std.specs.Option.{option_map_or}
use Rattle.std.proofs.lemmas.Option.{same_Some}
use Rattle.model_core.specs.declared.var_range.VarRange.{VarRange}
use Rattle.model_core.specs.EventGraph.{EventGraph, Variable}
use Rattle.model_core.specs.Ranges.OtherRanges.{with_range, with_ranges, model_with_ranges}
use Rattle.model_core.specs.Ranges.Narrowed.{IsNarrowed}
use Rattle.model_core.specs.Rules.MarkedPlaces.{marked_of}
use Rattle.model_core.specs.Rules.Prune.{pruned}
use Rattle.model_core.specs.Rules.Settle.{settled}
use Rattle.model_core.specs.Rules.Merge.{merged}
use Rattle.model_core.specs.Rules.Slice.{sliced}
use Rattle.model_core.specs.Rules.Drop.{staying_marks, dropped}
use Rattle.model_core.specs.Rules.Fuse.{Fused, no_twins, fuse_first, fused}
use Rattle.model_core.specs.Rules.Reduction.{RuleApplication, Prune, Settle, Drop, Merge, Slice, Strategy, applied, failed_condition, result_of, unless_failed, edge_named, vertices_named, two_vertices_named, variables_named}
use Rattle.normal_form.specs.Normal.{Round}

-- one of these variables has the name, the kind and the size of this one
pub record IsDeclaredAmong (vs : List Variable) (w : Variable) : Type 0 where
  pub place : ℕ
  pub found : Variable
  pub there : slice_get vs place ≡ Some found
  pub name : found.name ≡ w.name
  pub kind : found.kind ≡ w.kind
  pub size : found.size ≡ w.size

-- each of the later variables is declared among the earlier ones
abbrev pub DeclaredFrom : List Variable → List Variable → Type 0
DeclaredFrom earlier later = (k : ℕ) (w : Variable) → slice_get later k ≡ Some w → IsDeclaredAmong earlier w

pub declared_from-refl : (vs : List Variable) → DeclaredFrom vs vs
declared_from-refl vs k w there = record { place = k; found = w; there = there; name = refl; kind = refl; size = refl }

pub declared_from-trans : (a b c : List Variable) → DeclaredFrom a b → DeclaredFrom b c → DeclaredFrom a c
declared_from-trans a b c first second k w there =
    let middle = second k w there in
    let start = first middle.place middle.found middle.there in
    record { place = start.place; found = start.found; there = start.there; name = start.name ∙ middle.name; kind = start.kind ∙ middle.kind; size = start.size ∙ middle.size }

-- what is declared among the later variables is declared among all
among-later : (v : Variable) (vs : List Variable) (w : Variable) → IsDeclaredAmong vs w → IsDeclaredAmong (v ∷ vs) w
among-later v vs w is = record { place = suc is.place; found = is.found; there = is.there; name = is.name; kind = is.kind; size = is.size }

-- ---- narrowing

declared_from-with_ranges : (vs : List Variable) (ranges : List VarRange) → DeclaredFrom vs (with_ranges vs ranges)
declared_from-with_ranges [] ranges k w there = cc
declared_from-with_ranges (v ∷ vs) [] k w there = declared_from-refl (v ∷ vs) k w there
declared_from-with_ranges (v ∷ vs) (r ∷ ranges) zero w there =
    let same = same_Some (with_range v r) w there in
    record { place = 0; found = v; there = refl; name = ap (λ (x : Variable). x.name) same; kind = ap (λ (x : Variable). x.kind) same; size = ap (λ (x : Variable). x.size) same }
declared_from-with_ranges (v ∷ vs) (r ∷ ranges) (suc k) w there = among-later v vs w (declared_from-with_ranges vs ranges k w there)

narrowed-declares : (g h : EventGraph) → IsNarrowed g h → DeclaredFrom g.variables h.variables
narrowed-declares g h is = subst (λ (k : EventGraph). DeclaredFrom g.variables k.variables) is.declared (by _)
  where
    by : (short : Bool) → DeclaredFrom g.variables (cond short (model_with_ranges g is.ranges) g).variables
    by true = declared_from-with_ranges g.variables is.ranges
    by false = declared_from-refl g.variables

-- ---- the rules of reduction

declared_from-marked_of : (marks : List Bool) (vs : List Variable) → DeclaredFrom vs (marked_of marks vs)
declared_from-marked_of [] vs k w there = cc
declared_from-marked_of (b ∷ bs) [] k w there = cc
declared_from-marked_of (true ∷ bs) (v ∷ vs) zero w there = declared_from-refl (v ∷ vs) 0 w there
declared_from-marked_of (true ∷ bs) (v ∷ vs) (suc k) w there = among-later v vs w (declared_from-marked_of bs vs k w there)
declared_from-marked_of (false ∷ bs) (v ∷ vs) k w there = among-later v vs w (declared_from-marked_of bs vs k w there)

result-declares : (g : EventGraph) (a : RuleApplication) → DeclaredFrom g.variables (result_of g a).variables
result-declares g (Prune name number) = by (edge_named g name number)
  where
    by : (o : Option (ℕ × ℕ)) → DeclaredFrom g.variables (option_map_or (λ (vertex, edge). pruned g vertex edge) o g).variables
    by None = declared_from-refl g.variables
    by (Some (vertex, edge)) = declared_from-refl g.variables
result-declares g (Settle name number) = by (edge_named g name number)
  where
    by : (o : Option (ℕ × ℕ)) → DeclaredFrom g.variables (option_map_or (λ (vertex, edge). settled g vertex edge) o g).variables
    by None = declared_from-refl g.variables
    by (Some (vertex, edge)) = declared_from-refl g.variables
result-declares g (Drop names) = by (vertices_named g names)
  where
    by : (o : Option (List ℕ)) → DeclaredFrom g.variables (option_map_or (λ vertices. dropped g vertices) o g).variables
    by None = declared_from-refl g.variables
    by (Some vertices) = declared_from-refl g.variables
result-declares g (Merge name target) = by (two_vertices_named g name target)
  where
    by : (o : Option (ℕ × ℕ)) → DeclaredFrom g.variables (option_map_or (λ (first, second). merged g first second) o g).variables
    by None = declared_from-refl g.variables
    by (Some (first, second)) = declared_from-refl g.variables
result-declares g (Slice names) = by (variables_named g names)
  where
    by : (o : Option (List ℕ)) → DeclaredFrom g.variables (option_map_or (λ variables. sliced g variables) o g).variables
    by None = declared_from-refl g.variables
    by (Some variables) = declared_from-marked_of (staying_marks variables (length g.variables)) g.variables

applied-declares : (g : EventGraph) (a : RuleApplication) (h : EventGraph) → applied g a ≡ Some h → DeclaredFrom g.variables h.variables
applied-declares g a h made = by (failed_condition g a) made
  where
    by : (o : Option ℕ) → unless_failed o (result_of g a) ≡ Some h → DeclaredFrom g.variables h.variables
    by None e = subst (λ (k : EventGraph). DeclaredFrom g.variables k.variables) (same_Some (result_of g a) h e) (result-declares g a)
    by (Some condition) e = cc

strategy-declares : (g : EventGraph) (applications : List RuleApplication) (h : EventGraph) → Strategy g applications h → DeclaredFrom g.variables h.variables
strategy-declares g [] h (finished, e) = subst (λ (k : EventGraph). DeclaredFrom g.variables k.variables) e (declared_from-refl g.variables)
strategy-declares g (a ∷ later) h (is_first, next, made, others) = declared_from-trans g.variables next.variables h.variables (applied-declares g a next made) (strategy-declares next later h others)

-- ---- fusing

fused-declares : (g h : EventGraph) → Fused g h → DeclaredFrom g.variables h.variables
fused-declares g _ (no_twins none) = declared_from-refl g.variables
fused-declares g h (fuse_first keep gone found others) = fused-declares (fused g keep gone) h others

-- ---- a round

pub round-declares : (g h : EventGraph) → Round g h → DeclaredFrom g.variables h.variables
round-declares g h r =
    declared_from-trans g.variables r.narrowed.variables h.variables (narrowed-declares g r.narrowed r.is_narrowed)
    (declared_from-trans r.narrowed.variables r.reduced.variables h.variables (strategy-declares r.narrowed r.applications r.reduced r.is_reduced) (fused-declares r.reduced h r.is_fused))
