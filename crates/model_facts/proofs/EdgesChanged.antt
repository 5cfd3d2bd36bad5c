-- What a vertex does is shorter by the line of an edge that is pruned, or by the condition of one that is settled.
use Rattle.std.proofs.Common.{◌≡◌, ℕ, zero, suc, ◌+◌, ◌-◌, ◌<◌, ◌^◌, nat_lt, inl, Bool, true, false, ◌&&◌, ◌||◌, cond, List, [], ◌∷◌, ◌++◌, map, filter, length, slice_get, Option, Some, None, IfSome, refl, sym, ◌∙◌, ap, ap₂, subst, arith, length-append}
use Rattle.std.specs.Prelude.{codes}
use Rattle.std.specs.List.{list_all, list_any, remove}
use Rattle.std.specs.Option.{option_map_or, option_and_then}
use Rattle.std.proofs.lemmas.Option.{option_and_then_some}
use Rattle.sig_base.specs.declared.limits.TheConstants.{PARAMETERS_MAX_VERSION_1}
use Rattle.model_core.specs.EventGraph.{EventGraph, EventVertex, EventEdge, Expression, has_drawn_delay}
use Rattle.model_core.specs.Run.Step.{vertex_at, no_vertex}
use Rattle.model_core.specs.Text.Canonical.{vertex_name, expression_texts, in_parentheses, edge_word, timing_text, condition_text, change_line, edge_line, version_line, canonical}
use Rattle.model_core.specs.Text.VersionNeeded.{has_many_targets, has_later_parts, needs_version_two}
use Rattle.model_core.specs.Rules.Exclusive.{exclusive}
use Rattle.model_core.specs.Rules.PlacedEdges.{edge_at, with_place, with_vertex}
use Rattle.model_core.specs.Rules.Prune.{without_edge, pruned}
use Rattle.model_core.specs.Rules.Settle.{with_true_condition, with_settled, settled}
use Rattle.model_core.specs.Rules.UrgentEdges.{is_urgent, each_pair, urgent_conditions, single_urgent}
use Rattle.model_core.proofs.BothTrue.{and_first, and_second}
use Rattle.vertex_laws.specs.BodyLines.{body_lines}
use Rattle.model_facts.specs.KnownLengths.{capped, LengthIsRight}
use Rattle.model_facts.specs.FactsOfModel.{LinesAreRight, VersionIsRight}
use Rattle.model_facts.specs.Inner.HasFewerBytes.{HasFewerBytes}
use Rattle.vertex_laws.proofs.PlacedElement.{lengths_placed}
use Rattle.vertex_laws.proofs.ReadElement.{read_at, is_there}
use Rattle.vertex_laws.proofs.ApartVertices.{apart_at, apart_placed}
use Rattle.vertex_laws.proofs.ChangedLines.{total, total_more, heading, lines_length, body_length, changed-later_lines, body_there, body_elsewhere}
use Rattle.vertex_laws.proofs.NeededVersion.{needed-same, needed-pruned}

-- ---- one vertex changed

-- where the edges of a vertex have fewer bytes and it is the same beside them
edges-fewer : (g : EventGraph) (f : EventVertex → EventVertex) (k gone : ℕ) (v : EventVertex) → ((x : EventVertex) → (f x).name ≡ x.name) → ((x : EventVertex) → (f x).parameters ≡ x.parameters) → ((x : EventVertex) → (f x).changes ≡ x.changes)
    → slice_get g.vertices k ≡ Some v → total (edge_line g) (f (vertex_at g k)).edges + gone ≡ total (edge_line g) (vertex_at g k).edges → HasFewerBytes g (with_vertex f k g) k gone
edges-fewer g f k gone v name parameters changes there fewer =
    let x = vertex_at g k in
    let old_lines = lines_length g x in
    let new_lines = lines_length g (f x) in
    let old_body = body_length g x in
    let new_body = body_length g (f x) in
    let heading_same = ap₂ (λ (n : List ℕ) (ps : List ℕ). length (heading g n ps)) (name x) (parameters x) in
    let changes_same = ap (total (change_line g)) (changes x) in
    let later_lines = changed-later_lines g f name k v there in
    let body = ap length (body_there g f name k (is_there g.vertices k v there)) in
    record {
      text = omega (arith, later_lines, old_lines, new_lines, heading_same, changes_same, fewer);
      body = omega (arith, body, old_body, new_body, changes_same, fewer);
      others = body_elsewhere g f name k;
    }

-- ---- a prune

-- without an element a list gives less by what that gives
total-without : {A : Type 0} (gives : A → List ℕ) (xs : List A) (k : ℕ) (x : A) → slice_get xs k ≡ Some x → total gives (remove xs k) + length (gives x) ≡ total gives xs
total-without gives [] k x there = cc
total-without gives (y ∷ xs) zero x there = let more = total_more gives y xs in let same = ap (λ (o : Option _). option_map_or (λ z. length (gives z)) o 0) there in omega (arith, more, same)
total-without gives (y ∷ xs) (suc k) x there = let rest = total-without gives xs k x there in omega (arith, rest, total_more gives y xs, total_more gives y (remove xs k))

-- the vertex of an edge
edge-there : (g : EventGraph) (vertex edge : ℕ) (e : EventEdge) → edge_at g vertex edge ≡ Some e → (v : EventVertex) × (slice_get g.vertices vertex ≡ Some v) × (slice_get (vertex_at g vertex).edges edge ≡ Some e)
edge-there g vertex edge e there =
    let (v, at, among) = option_and_then_some (λ (v : EventVertex). slice_get v.edges edge) (slice_get g.vertices vertex) e there (λ v is makes. (v, is, makes)) in
    (v, at, subst (λ (x : EventVertex). slice_get x.edges edge ≡ Some e) (sym (read_at g.vertices vertex no_vertex v at)) among)

pub prune-loses : (g : EventGraph) (vertex edge : ℕ) (e : EventEdge) → edge_at g vertex edge ≡ Some e → HasFewerBytes g (pruned g vertex edge) vertex (length (edge_line g e))
prune-loses g vertex edge e there =
    let (v, at, among) = edge-there g vertex edge e there in
    edges-fewer g (without_edge edge) vertex (length (edge_line g e)) v (λ x. refl) (λ x. refl) (λ x. refl) at (total-without (edge_line g) (vertex_at g vertex).edges edge e among)

undrawn-pruned : (g : EventGraph) (vertex edge : ℕ) (e : EventEdge) → edge_at g vertex edge ≡ Some e → has_drawn_delay e ≡ false → needs_version_two (pruned g vertex edge) ≡ needs_version_two g
undrawn-pruned g vertex edge e there undrawn =
    needed-pruned g vertex edge (λ v at f among. subst (λ (x : EventEdge). has_drawn_delay x ≡ false) (only-one (sym (ap (option_and_then (λ (x : EventVertex). slice_get x.edges edge)) at ∙ among) ∙ there)) undrawn)
  where
    only-one : {A : Type 0} {x y : A} → Some x ≡ Some y → y ≡ x
    only-one e = cc

-- what is known of the version stays so where the edge doesn't draw its delay
pub version-pruned : (g : EventGraph) (vertex edge : ℕ) (e : EventEdge) → edge_at g vertex edge ≡ Some e → (old new : Option Bool) → IfSome new (λ two. (old ≡ Some two) × (has_drawn_delay e ≡ false)) → VersionIsRight g old → VersionIsRight (pruned g vertex edge) new
version-pruned g vertex edge e there old None is given = tt
version-pruned g vertex edge e there old (Some two) (was, undrawn) given =
    let right : two ≡ needs_version_two g = subst (VersionIsRight g) was given in
    right ∙ sym (undrawn-pruned g vertex edge e there undrawn)

-- urgent edges exclude each other without one of them as well
module _ (test : Expression → Expression → Bool) where
  all-without : (t : Expression → Bool) (es : List EventEdge) (k : ℕ) → list_all t (urgent_conditions es) ≡ true → list_all t (urgent_conditions (remove es k)) ≡ true
  all-without t [] zero all = all
  all-without t [] (suc k) all = all
  all-without t (e ∷ es) zero all = later_lines (is_urgent e) all where
    later_lines : (b : Bool) → list_all t (map (λ (e : EventEdge). e.condition) (cond b (e ∷ filter is_urgent es) (filter is_urgent es))) ≡ true → list_all t (urgent_conditions es) ≡ true
    later_lines true all = and_second (t e.condition) (list_all t (urgent_conditions es)) all
    later_lines false all = all
  all-without t (e ∷ es) (suc k) all = one (is_urgent e) all (all-without t es k) where
    one : (b : Bool) → list_all t (map (λ (e : EventEdge). e.condition) (cond b (e ∷ filter is_urgent es) (filter is_urgent es))) ≡ true
        → (list_all t (urgent_conditions es) ≡ true → list_all t (urgent_conditions (remove es k)) ≡ true)
        → list_all t (map (λ (e : EventEdge). e.condition) (cond b (e ∷ filter is_urgent (remove es k)) (filter is_urgent (remove es k)))) ≡ true
    one true all rest = ap₂ (λ a b. a && b) (and_first (t e.condition) (list_all t (urgent_conditions es)) all) (rest (and_second (t e.condition) (list_all t (urgent_conditions es)) all))
    one false all rest = rest all

  pairs-without : (es : List EventEdge) (k : ℕ) → each_pair test (urgent_conditions es) ≡ true → each_pair test (urgent_conditions (remove es k)) ≡ true
  pairs-without [] zero pairs = pairs
  pairs-without [] (suc k) pairs = pairs
  pairs-without (e ∷ es) zero pairs = later_lines (is_urgent e) pairs where
    later_lines : (b : Bool) → each_pair test (map (λ (e : EventEdge). e.condition) (cond b (e ∷ filter is_urgent es) (filter is_urgent es))) ≡ true → each_pair test (urgent_conditions es) ≡ true
    later_lines true pairs = and_second (list_all (test e.condition) (urgent_conditions es)) (each_pair test (urgent_conditions es)) pairs
    later_lines false pairs = pairs
  pairs-without (e ∷ es) (suc k) pairs = one (is_urgent e) pairs (pairs-without es k) where
    one : (b : Bool) → each_pair test (map (λ (e : EventEdge). e.condition) (cond b (e ∷ filter is_urgent es) (filter is_urgent es))) ≡ true
        → (each_pair test (urgent_conditions es) ≡ true → each_pair test (urgent_conditions (remove es k)) ≡ true)
        → each_pair test (map (λ (e : EventEdge). e.condition) (cond b (e ∷ filter is_urgent (remove es k)) (filter is_urgent (remove es k)))) ≡ true
    one true pairs rest =
        ap₂ (λ a b. a && b) (all-without (test e.condition) es k (and_first (list_all (test e.condition) (urgent_conditions es)) (each_pair test (urgent_conditions es)) pairs))
        (rest (and_second (list_all (test e.condition) (urgent_conditions es)) (each_pair test (urgent_conditions es)) pairs))
    one false pairs rest = rest pairs

pub pruned_single : (g : EventGraph) (vertex edge : ℕ) → single_urgent g ≡ true → single_urgent (pruned g vertex edge) ≡ true
pruned_single g vertex edge single =
    apart_placed g (without_edge edge) vertex g.vertices (pairs-without (exclusive g) (vertex_at g vertex).edges edge (apart_at g g.vertices vertex single)) single

-- ---- a settle

settled-line : (g : EventGraph) (e : EventEdge) → length (edge_line g (with_true_condition e)) + length (condition_text g e.condition) ≡ length (edge_line g e)
settled-line g e =
    let front = edge_word e.kind ++ vertex_name g e.target ++ in_parentheses (expression_texts g e.values) ++ timing_text g e.kind in
    omega (arith, length-append (front ++ []) (codes ";\n"), length-append front [], length-append (front ++ condition_text g e.condition) (codes ";\n"), length-append front (condition_text g e.condition))

pub settle-loses : (g : EventGraph) (vertex edge : ℕ) (e : EventEdge) → edge_at g vertex edge ≡ Some e → HasFewerBytes g (settled g vertex edge) vertex (length (condition_text g e.condition))
settle-loses g vertex edge e there =
    let (v, at, among) = edge-there g vertex edge e there in
    let es = (vertex_at g vertex).edges in
    let placed = lengths_placed (edge_line g) with_true_condition edge es e e among in
    let here = ap (λ (x : EventEdge). length (edge_line g x)) (read_at es edge e e among) in
    let new = ap (λ (x : EventEdge). length (edge_line g (with_true_condition x))) (read_at es edge e e among) in
    let line = settled-line g e in
    edges-fewer g (with_settled edge) vertex (length (condition_text g e.condition)) v (λ x. refl) (λ x. refl) (λ x. refl) at (omega (arith, placed, here, new, line))

drawn-settled : (es : List EventEdge) (k : ℕ) → list_any has_drawn_delay (with_place with_true_condition k es) ≡ list_any has_drawn_delay es
drawn-settled [] k = refl
drawn-settled (e ∷ es) zero = refl
drawn-settled (e ∷ es) (suc k) = ap (λ b. has_drawn_delay e || b) (drawn-settled es k)

needed-settled : (g : EventGraph) (vertex edge : ℕ) → needs_version_two (settled g vertex edge) ≡ needs_version_two g
needed-settled g vertex edge =
    let same : (v : EventVertex) → has_later_parts (with_settled edge v) ≡ has_later_parts v = λ v. ap (λ b. nat_lt PARAMETERS_MAX_VERSION_1 (length v.parameters) || list_any has_many_targets v.changes || b) (drawn-settled v.edges edge) in
    needed-same (with_settled edge) false g vertex (λ v there e. inl (sym (same v) ∙ e)) (λ v there e. same v ∙ e) (λ no. cc)

pub version-settled : (g : EventGraph) (vertex edge : ℕ) (two : Option Bool) → VersionIsRight g two → VersionIsRight (settled g vertex edge) two
version-settled g vertex edge None given = tt
version-settled g vertex edge (Some two) given = given ∙ sym (needed-settled g vertex edge)

-- where the urgent edges of its vertex exclude each other with the new condition
pub settled_single : (g : EventGraph) (vertex edge : ℕ) → single_urgent g ≡ true → each_pair (exclusive g) (urgent_conditions (with_place with_true_condition edge (vertex_at g vertex).edges)) ≡ true → single_urgent (settled g vertex edge) ≡ true
settled_single g vertex edge single here = apart_placed g (with_settled edge) vertex g.vertices here single

-- ---- what is known

-- of numbers that are known to the last byte, what is left
pub lines-left : (g h : EventGraph) (vertex bytes gone : ℕ) (old new : Option ℕ) → HasFewerBytes g h vertex bytes → gone ≡ capped bytes → IfSome new (λ left. (old ≡ Some (left + gone)) × (left + gone < 2 ^ 64 - 1)) → LinesAreRight g old → LinesAreRight h new
lines-left g h vertex bytes gone old None loses is taken given = tt
lines-left g h vertex bytes gone old (Some left) loses is (whole, short) given =
    let right : length (version_line (needs_version_two g)) + (left + gone) ≡ length (canonical g) = subst (LinesAreRight g) whole given in
    omega (arith, right, loses.text, is, short)

pub body-left : (g h : EventGraph) (vertex bytes gone : ℕ) (old new : Option ℕ) → HasFewerBytes g h vertex bytes → gone ≡ capped bytes → IfSome new (λ left. (old ≡ Some (left + gone)) × (left + gone < 2 ^ 64 - 1))
    → LengthIsRight old (body_lines g (vertex_at g vertex)) → LengthIsRight new (body_lines h (vertex_at h vertex))
body-left g h vertex bytes gone old None loses is taken given = tt
body-left g h vertex bytes gone old (Some left) loses is (whole, short) given =
    let right : left + gone ≡ capped (length (body_lines g (vertex_at g vertex))) = subst (λ (n : Option ℕ). LengthIsRight n (body_lines g (vertex_at g vertex))) whole given in
    omega (arith, right, loses.body, is, short)
