-- What the code of a sweep does to the edges of a vertex, and notes of them, in the words of the sweep.
use Rattle.std.proofs.Common.{◌≡◌, ℕ, zero, suc, ◌+◌, ◌<◌, Bool, true, false, not, cond, List, [], ◌∷◌, ◌++◌, map, length, drop, get_or, refl, sym, ap, ◌∙◌, append_assoc, add-one, arith}
use Rattle.std.specs.Prelude.{filter}
use Rattle.std.specs.List.{flat_map}
use Rattle.std.proofs.Math.Seq.{drop-cons}
use Rattle.model_core.specs.declared.vertex.Edge.{Edge}
use Rattle.model_core.specs.Code.Views.{edge_of}
use Rattle.model_core.specs.EventGraph.{EventEdge, EventGraph, Truth}
use Rattle.model_core.specs.Rules.Reduction.{RuleApplication}
use Rattle.edge_pruning.specs.declared.finding.EdgeRule.{EdgeRule}
use Rattle.edge_pruning.specs.declared.finding.EdgeRule.TheVariants as rules
use Rattle.edge_pruning.specs.EdgeRules.{edge_test}
use Rattle.reducer.specs.Inner.Sweep.{left_by_sweep, applied_where, applied_after, settled_if_proved, application_here, next_before}

-- the edges whose condition isn't refuted stay
pub kept_edges : (g : EventGraph) (es : List EventEdge) → filter (λ e. not (edge_test rules.Prune g e)) es ≡ flat_map (left_by_sweep rules.Prune g) es
kept_edges g [] = refl
kept_edges g (e ∷ es) = one (edge_test rules.Prune g e) (kept_edges g es) where
  one : (b : Bool) → filter (λ e. not (edge_test rules.Prune g e)) es ≡ flat_map (left_by_sweep rules.Prune g) es
      → cond (not b) (e ∷ filter (λ e. not (edge_test rules.Prune g e)) es) (filter (λ e. not (edge_test rules.Prune g e)) es) ≡ cond b [] (e ∷ []) ++ flat_map (left_by_sweep rules.Prune g) es
  one true go = go
  one false go = ap (λ es. e ∷ es) go

pub settled_edges : (g : EventGraph) (es : List EventEdge) → map (settled_if_proved g) es ≡ flat_map (left_by_sweep rules.Settle g) es
settled_edges g [] = refl
settled_edges g (e ∷ es) = one (edge_test rules.Settle g e) (settled_edges g es) where
  one : (b : Bool) → map (settled_if_proved g) es ≡ flat_map (left_by_sweep rules.Settle g) es
      → cond b (record e { condition = Truth true }) e ∷ map (settled_if_proved g) es ≡ cond b (record e { condition = Truth true } ∷ []) (e ∷ []) ++ flat_map (left_by_sweep rules.Settle g) es
  one true go = ap (λ es. record e { condition = Truth true } ∷ es) go
  one false go = ap (λ es. e ∷ es) go

-- the applications to the edges that are left are those to the next one, and then to those after it
applied_next : (rule : EdgeRule) (g : EventGraph) (name : List ℕ) (before : ℕ) (b : Bool) (es : List EventEdge) → applied_where rule name before b (λ k. applied_after rule g name k es) ≡ application_here rule name before b ++ applied_after rule g name (next_before rule before b) es
applied_next rule g name before true es = refl
applied_next rule g name before false es = refl

pub one_noted : (rule : EdgeRule) (g : EventGraph) (name : List ℕ) (before next i : ℕ) (edges : List Edge) (e : Edge) (b : Bool) (so_far now all : List RuleApplication) → i < length edges → e ≡ get_or edges i e → b ≡ edge_test rule g (edge_of e) → next ≡ next_before rule before b
    → now ≡ so_far ++ application_here rule name before b → so_far ++ applied_after rule g name before (map edge_of (drop i edges)) ≡ all → now ++ applied_after rule g name next (map edge_of (drop (i + 1) edges)) ≡ all
one_noted rule g name before next i edges e b so_far now all below is test over noted before_it =
    let rest = map edge_of (drop (suc i) edges) in
    ap (λ n. now ++ applied_after rule g name next (map edge_of (drop n edges))) (add-one i)
    ∙ ap (λ n. now ++ applied_after rule g name n rest) over
    ∙ ap (λ (xs : List RuleApplication). xs ++ applied_after rule g name (next_before rule before b) rest) noted
    ∙ append_assoc so_far (application_here rule name before b) (applied_after rule g name (next_before rule before b) rest)
    ∙ ap (λ (xs : List RuleApplication). so_far ++ xs) (sym (applied_next rule g name before b rest))
    ∙ ap (λ b. so_far ++ applied_where rule name before b (λ k. applied_after rule g name k rest)) test
    ∙ ap (λ (es : List Edge). so_far ++ applied_after rule g name before (map edge_of es)) (sym (drop-cons edges i e below ∙ ap (λ (x : Edge). x ∷ drop (suc i) edges) (sym is)))
    ∙ before_it

-- ---- the edge at a place

pub one_there : {A : Type 0} (xs : List A) (k : ℕ) (x y : A) → k < length xs → x ≡ get_or xs k x → y ≡ get_or xs k y → x ≡ y
one_there [] k x y below is_x is_y = absurd (omega (arith, below))
one_there (z ∷ xs) zero x y below is_x is_y = is_x ∙ sym is_y
one_there (z ∷ xs) (suc k) x y below is_x is_y = one_there xs k x y (omega (arith, below)) is_x is_y

get_or_zero-drop : {A : Type 0} (xs : List A) (k : ℕ) (d : A) → get_or (drop k xs) 0 d ≡ get_or xs k d
get_or_zero-drop [] zero d = refl
get_or_zero-drop [] (suc k) d = refl
get_or_zero-drop (x ∷ xs) zero d = refl
get_or_zero-drop (x ∷ xs) (suc k) d = get_or_zero-drop xs k d

-- lists that are the same from a place on have the same element there
pub same_there : {A : Type 0} (xs ys : List A) (k : ℕ) (x : A) → drop k ys ≡ drop k xs → x ≡ get_or ys k x → x ≡ get_or xs k x
same_there xs ys k x same is = is ∙ sym (get_or_zero-drop ys k x) ∙ ap (λ zs. get_or zs 0 x) same ∙ get_or_zero-drop xs k x

-- one edge more is settled or not, at its own place
pub one_further : (before : ℕ) (b : Bool) → before + 1 ≡ next_before rules.Settle before b
one_further before true = refl
one_further before false = refl
