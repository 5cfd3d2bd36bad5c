-- What the first seven conditions of a merge say of the code's two vertices, and by how much the merge makes the text longer.
use Rattle.std.proofs.Common.{◌≡◌, ◌∙◌, ◌==◌, ℕ, ◌+◌, ◌-◌, ◌<◌, ◌≤◌, nat_lt, nat_le, Bool, true, ◌&&◌, not, List, ◌++◌, map, take, length, min, get_or, slice_get, Some, None, is_some, IsSome, sym, ap, ap₂, arith, length-append}
use Rattle.std.specs.List.{flat_map, remove}
use Rattle.std.specs.Option.{option_map_or}
use Rattle.std.proofs.lemmas.Bool.Decides.{nat_tests}
use Rattle.std.proofs.lemmas.List.{length-map}
use Rattle.std.proofs.lemmas.List.Edits.{length-remove}
use Rattle.model_core.specs.declared.model.Model.{Model}
use Rattle.model_core.specs.declared.vertex.Vertex.{Vertex}
use Rattle.model_core.specs.declared.vertex.Edge.{Edge}
use Rattle.model_core.specs.EventGraph.{EventGraph, EventVertex, EventEdge}
use Rattle.model_core.specs.Run.Step.{vertex_at, no_vertex}
use Rattle.model_core.specs.Text.Canonical.{canonical, change_line, edge_line}
use Rattle.model_core.specs.Rules.Conditions.{first_failed}
use Rattle.model_core.specs.Rules.Prune.{pruned}
use Rattle.model_core.specs.Rules.UrgentEdges.{plain_urgent}
use Rattle.model_core.specs.Rules.Merge.{set_parameters, merged_vertex, merged_with, merged, values_at_once, has_few_parts, merge_conditions}
use Rattle.model_core.specs.Code.Views.{graph_of, vertex_of, edge_of, expression_of}
use Rattle.model_core.proofs.BothTrue.{and_first, and_second}
use Rattle.merge_rules.proofs.OneStepForTwo.MergedModels.{place-here}
use Rattle.model_core.proofs.AllHold.{every-holds}
use Rattle.vertex_laws.proofs.ReadElement.{read_at, seen_at}
use Rattle.merge_rules.proofs.OneStepForTwo.MergeHolds.{is_below}
use Rattle.merge_rules.proofs.SingleUrgentModels.PlainEdges.{PlainEdge, plain_edge_of, plain_within}
use Rattle.merge_rules.proofs.OneStepForTwo.EdgesAside.{urgent_edge}
use Rattle.vertex_laws.specs.BodyLines.{body_lines}
use Rattle.merge_rules.specs.Growth.{bytes_added, bytes_set, bytes_gone}
use Rattle.merge_rules.proofs.MergedText.GrownTexts.{gone-is, set-is, added-parts, gone-within-body, shorter, grown, body-grown}

-- ---- the first condition

pub record Leads (g : EventGraph) (first second : ℕ) : Type 0 where
  pub exists : nat_lt first (length g.vertices) ≡ true
  pub target_exists : nat_lt second (length g.vertices) ≡ true
  pub edge : PlainEdge (vertex_at g first) second

pub seven_hold : (g : EventGraph) (first second : ℕ) → first_failed (take 7 (merge_conditions g first second)) ≡ None → Leads g first second
seven_hold g first second none =
    let all = every-holds (take 7 (merge_conditions g first second)) none in
    let two = and_first (nat_lt first (length g.vertices) && nat_lt second (length g.vertices) && not (first == second)) _ all.0 in
    let one = and_first (nat_lt first (length g.vertices) && nat_lt second (length g.vertices)) _ two in
    record {
      exists = and_first (nat_lt first (length g.vertices)) _ one;
      target_exists = and_second (nat_lt first (length g.vertices)) _ one;
      edge = plain_edge_of (vertex_at g first) second (and_second (nat_lt first (length g.vertices) && nat_lt second (length g.vertices) && not (first == second)) _ all.0);
    }

-- a place that the graph has is one that the code's list has
place_below : {A B : Type 0} (view : A → B) (xs : List A) (k : ℕ) → nat_lt k (length (map view xs)) ≡ true → k < length xs
place_below view xs k e = let below = is_below k (length (map view xs)) e in omega (arith, below, length-map xs view)

-- the element that the code reads at a place that the graph has
seen_there : {A B : Type 0} (view : A → B) (xs seen : List A) (k : ℕ) (x : A) → nat_lt k (length (map view xs)) ≡ true → x ≡ get_or seen k x → seen ≡ xs → slice_get (map view xs) k ≡ Some (view x)
seen_there view xs seen k x exists is same = seen_at view xs k x (place_below view xs k exists) (is ∙ ap (λ ys. get_or ys k x) same)

-- ---- by how much a merge makes the text longer

module _ (g : EventGraph) (first second : ℕ) (none : first_failed (take 7 (merge_conditions g first second)) ≡ None) where
  -- it is longer by what is added, and shorter by what goes, which was a part of it
  pub text_grown : length (canonical (merged g first second)) + bytes_gone g first ≡ length (canonical g) + bytes_added g first
  text_grown = grown g first second (seven_hold g first second none).edge (is_below first (length g.vertices) (seven_hold g first second none).exists)

  -- of what is added the lines of the target's changes and edges are a part
  pub text_added : bytes_added g first ≡ bytes_set g first + length (body_lines g (vertex_at g second))
  text_added = added-parts g first second (seven_hold g first second none).edge

  -- so it is with the lines of what the first vertex does
  pub body_grown : length (body_lines (merged g first second) (vertex_at (merged g first second) first)) + bytes_gone g first ≡ length (body_lines g (vertex_at g first)) + bytes_added g first
  body_grown = body-grown g first second (seven_hold g first second none).edge (is_below first (length g.vertices) (seven_hold g first second none).exists)

  pub gone_within_body : bytes_gone g first ≤ length (body_lines g (vertex_at g first))
  gone_within_body = gone-within-body g first second (seven_hold g first second none).edge

  pub gone_within : bytes_gone g first ≤ length (canonical g)
  gone_within = let whole = shorter g first second (seven_hold g first second none).edge (is_below first (length g.vertices) (seven_hold g first second none).exists) in omega (arith, whole)

-- ---- how many changes and edges

pub with_merged : (b a : EventVertex) (place : ℕ) → plain_urgent a ≡ Some place → merged_with b a ≡ merged_vertex b (values_at_once a) a place
with_merged b a place is = ap (λ o. option_map_or (merged_vertex b (values_at_once a) a) o a) is

-- all edges but one, and those of the second
pub edges_many : (a b : EventVertex) (place : ℕ) → plain_urgent a ≡ Some place → length (merged_with b a).edges + 1 ≡ length a.edges + length b.edges
edges_many a b place is =
    let whole = ap (λ (v : EventVertex). length v.edges) (with_merged b a place is) in
    let parts = length-append (remove a.edges place) b.edges in
    let one = length-remove a.edges place (plain_within a place is) in
    omega (arith, whole, parts, one)

-- all changes, those that set the parameters of the second, and the second's
pub changes_many : (a b : EventVertex) (place : ℕ) → plain_urgent a ≡ Some place → length (merged_with b a).changes ≡ length a.changes + length (set_parameters b.parameters (values_at_once a)) + length b.changes
changes_many a b place is =
    let set = set_parameters b.parameters (values_at_once a) in
    ap (λ (v : EventVertex). length v.changes) (with_merged b a place is) ∙ length-append (a.changes ++ set) b.changes ∙ ap (λ n. n + length b.changes) (length-append a.changes set)

-- ---- how long the text is

-- lengths that stop at the greatest number give the sum's that stops there
pub capped_sum : (top rest more whole : ℕ) → whole ≡ rest + more → min (min rest top + min more top) top ≡ min whole top
capped_sum top rest more whole is = omega (arith, is)

-- a length that stops at a number beyond the limit is within the limit where the length is
pub capped_test : (limit top whole seen : ℕ) → limit < top → seen ≡ min whole top → nat_le seen limit ≡ nat_le whole limit
capped_test limit top whole seen beyond is = grind (arith, nat_tests)

-- a part that is no longer than the whole, where the whole doesn't stop
pub part_taken : (top seen whole part gone : ℕ) → seen ≡ whole → part ≤ whole → gone ≡ min part top → seen ≤ top → seen - gone ≡ min (whole - part) top
part_taken top seen whole part gone is within stops few = omega (arith, is, within, stops, few)

-- the code's vertices and its edge, as the conditions find them
module _ (g : EventGraph) (first second : ℕ) (h : Leads g first second) where
  abbrev p : PlainEdge (vertex_at g first) second
  p = h.edge

  pub place_found : (a : EventVertex) (place : ℕ) → slice_get g.vertices first ≡ Some a → plain_urgent a ≡ Some place → place ≡ p.place
  place_found a place there at =
      let here : vertex_at g first ≡ a = read_at g.vertices first no_vertex a there in
      let same : Some place ≡ Some p.place = sym at ∙ ap plain_urgent (sym here) ∙ p.is in
      cc

  -- the edge at the place of the plain urgent edge is that edge
  pub edge_found : (a : EventVertex) (place : ℕ) (e : EventEdge) → slice_get g.vertices first ≡ Some a → plain_urgent a ≡ Some place → slice_get a.edges place ≡ Some e → e ≡ urgent_edge second p.values
  edge_found a place e there at is =
      let here : vertex_at g first ≡ a = read_at g.vertices first no_vertex a there in
      let one : place ≡ p.place = place_found a place there at in
      let found : Some e ≡ Some (urgent_edge second p.values) = sym is ∙ ap (λ (v : EventVertex). slice_get v.edges place) (sym here) ∙ ap (slice_get (vertex_at g first).edges) one ∙ p.there in
      cc

  -- the lines that go and that the `set` adds, as the code reads them
  edge_gone : (a : EventVertex) (place : ℕ) (e : EventEdge) → slice_get g.vertices first ≡ Some a → plain_urgent a ≡ Some place → slice_get a.edges place ≡ Some e → bytes_gone g first ≡ length (edge_line g e)
  edge_gone a place e there at is = gone-is g first second p ∙ ap (λ (e : EventEdge). length (edge_line g e)) (sym (edge_found a place e there at is))

  lines_set : (a b : EventVertex) (place : ℕ) (e : EventEdge) → slice_get g.vertices first ≡ Some a → slice_get g.vertices second ≡ Some b → plain_urgent a ≡ Some place → slice_get a.edges place ≡ Some e
      → bytes_set g first ≡ length (flat_map (change_line g) (set_parameters b.parameters e.values))
  lines_set a b place e there target at is =
      let values : e.values ≡ p.values = ap (λ (e : EventEdge). e.values) (edge_found a place e there at is) in
      let second_is : vertex_at g second ≡ b = read_at g.vertices second no_vertex b target in
      set-is g first second p ∙ ap₂ (λ (v : EventVertex) values. length (flat_map (change_line g) (set_parameters v.parameters values))) second_is (sym values)

  -- the text without the edge
  without_edge : (a : EventVertex) (place : ℕ) → slice_get g.vertices first ≡ Some a → plain_urgent a ≡ Some place → length (canonical (pruned g first place)) + bytes_gone g first ≡ length (canonical g)
  without_edge a place there at = ap (λ n. length (canonical (pruned g first n)) + bytes_gone g first) (place_found a place there at) ∙ shorter g first second p (is_below first (length g.vertices) h.exists)

  -- whether the result's vertex has few parts
  few_parts-merged : (a b : EventVertex) (r : Bool) → slice_get g.vertices first ≡ Some a → slice_get g.vertices second ≡ Some b → ((place : ℕ) → plain_urgent a ≡ Some place → r ≡ has_few_parts (merged_with b a)) → r ≡ has_few_parts (vertex_at (merged g first second) first)
  few_parts-merged a b r there target when =
      let first_is : vertex_at g first ≡ a = read_at g.vertices first no_vertex a there in
      let second_is : vertex_at g second ≡ b = read_at g.vertices second no_vertex b target in
      when p.place (ap plain_urgent (sym first_is) ∙ p.is)
      ∙ ap₂ (λ b a. has_few_parts (merged_with b a)) (sym second_is) (sym first_is)
      ∙ ap has_few_parts (sym (place-here (merged_with (vertex_at g second)) first g.vertices no_vertex a there))

-- the code's two vertices, which it reads at the places
module _ (m : Model) (first second : ℕ) (none : first_failed (take 7 (merge_conditions (graph_of m) first second)) ≡ None) (seen : List Vertex) (same : seen ≡ m.vertices) where
  abbrev holds : Leads (graph_of m) first second
  holds = seven_hold (graph_of m) first second none

  first_there : (a : Vertex) → a ≡ get_or seen first a → slice_get (map vertex_of m.vertices) first ≡ Some (vertex_of a)
  first_there a is = seen_there vertex_of m.vertices seen first a holds.exists is same

  second_there : (b : Vertex) → b ≡ get_or seen second b → slice_get (map vertex_of m.vertices) second ≡ Some (vertex_of b)
  second_there b is = seen_there vertex_of m.vertices seen second b holds.target_exists is same

  -- the places are among those of the code's list, and there is a plain urgent edge at the first
  among : (k : ℕ) → k < length m.vertices → k < length seen
  among k below = let long = ap length same in omega (arith, below, long)

  pub first_among : first < length seen
  first_among = among first (place_below vertex_of m.vertices first holds.exists)

  pub second_among : second < length seen
  second_among = among second (place_below vertex_of m.vertices second holds.target_exists)

  first_is : (a : Vertex) → a ≡ get_or seen first a → vertex_at (graph_of m) first ≡ vertex_of a
  first_is a is = read_at (graph_of m).vertices first no_vertex (vertex_of a) (first_there a is)

  pub urgent_there : (a : Vertex) → a ≡ get_or seen first a → IsSome (plain_urgent (vertex_of a))
  urgent_there a is = ap is_some (ap plain_urgent (sym (first_is a is)) ∙ holds.edge.is)

  pub urgent_at : (a : Vertex) → a ≡ get_or seen first a → (place : ℕ) → plain_urgent (vertex_of a) ≡ Some place → plain_urgent (vertex_at (graph_of m) first) ≡ Some place
  urgent_at a is place at = ap plain_urgent (first_is a is) ∙ at

  pub few_here : (a b : Vertex) (r : Bool) → a ≡ get_or seen first a → b ≡ get_or seen second b → ((place : ℕ) → plain_urgent (vertex_of a) ≡ Some place → r ≡ has_few_parts (merged_with (vertex_of b) (vertex_of a))) → r ≡ has_few_parts (vertex_at (merged (graph_of m) first second) first)
  few_here a b r is_a is_b when = few_parts-merged (graph_of m) first second holds (vertex_of a) (vertex_of b) r (first_there a is_a) (second_there b is_b) when

  pub without_here : (a : Vertex) → a ≡ get_or seen first a → (place : ℕ) → plain_urgent (vertex_of a) ≡ Some place → length (canonical (pruned (graph_of m) first place)) + bytes_gone (graph_of m) first ≡ length (canonical (graph_of m))
  without_here a is place at = without_edge (graph_of m) first second holds (vertex_of a) place (first_there a is) at

  -- the edge that it reads at the place of the plain urgent one
  module _ (a : Vertex) (is_a : a ≡ get_or seen first a) (place : ℕ) (at : plain_urgent (vertex_of a) ≡ Some place) (within : place < length a.edges) (edges : List Edge) (same_edges : edges ≡ a.edges) (e : Edge) (is_e : e ≡ get_or edges place e) where
    edge_there : slice_get (map edge_of a.edges) place ≡ Some (edge_of e)
    edge_there = seen_at edge_of a.edges place e within (is_e ∙ ap (λ es. get_or es place e) same_edges)

    pub gone_here : bytes_gone (graph_of m) first ≡ length (edge_line (graph_of m) (edge_of e))
    gone_here = edge_gone (graph_of m) first second holds (vertex_of a) place (edge_of e) (first_there a is_a) at edge_there

    pub set_here : (b : Vertex) → b ≡ get_or seen second b → bytes_set (graph_of m) first ≡ length (flat_map (change_line (graph_of m)) (set_parameters b.params (map expression_of e.values)))
    set_here b is_b = lines_set (graph_of m) first second holds (vertex_of a) (vertex_of b) place (edge_of e) (first_there a is_a) (second_there b is_b) at edge_there
