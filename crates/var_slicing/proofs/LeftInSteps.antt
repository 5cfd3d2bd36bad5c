-- Edges first, and then parameters and changes: the two steps in which vertices are left make what is to be left of them.
use Rattle.std.proofs.Common.{◌≡◌, ℕ, zero, suc, ◌<◌, Bool, List, [], ◌∷◌, map, length, get_or, set, slice_index_or, refl, sym, ap, ap₂, ◌∙◌, subst, arith}
use Rattle.std.proofs.lemmas.List.{get_or-set_same, set-set}
use Rattle.model_core.specs.declared.vertex.Vertex.{Vertex}
use Rattle.model_core.specs.EventGraph.{EventGraph, EventVertex, EventEdge}
use Rattle.model_core.specs.Run.Step.{no_vertex}
use Rattle.model_core.specs.Static.OwnRules.{parameters_of}
use Rattle.model_core.specs.Rules.Slice.{sliced_values, sliced_edge, sliced_vertex}
use Rattle.model_core.specs.Code.Views.{vertex_of, edge_of}
use Rattle.sig_base.proofs.Lists.{ChangedTo, ChangedTo-step}
use Rattle.var_slicing.specs.Inner.StepsOfLeaving.{edge_left_in, edges_left_in, own_parts_left}

-- ---- the parameters of vertices

pub seen_parameters : (vs : List Vertex) → map (λ (v : EventVertex). v.parameters) (map vertex_of vs) ≡ map (λ (v : Vertex). v.params) vs
seen_parameters [] = refl
seen_parameters (v ∷ vs) = ap (λ (rest : List (List ℕ)). v.params ∷ rest) (seen_parameters vs)

parameters_there : (vs : List EventVertex) (k : ℕ) → slice_index_or (map (λ (v : EventVertex). v.parameters) vs) k [] ≡ (slice_index_or vs k no_vertex).parameters
parameters_there [] zero = refl
parameters_there [] (suc k) = refl
parameters_there (v ∷ vs) zero = refl
parameters_there (v ∷ vs) (suc k) = parameters_there vs k

-- as edges change, parameters stay
pub same_parameters : (f : EventVertex → EventVertex) → ((v : EventVertex) → (f v).parameters ≡ v.parameters) → (i : ℕ) (xs ys : List Vertex) → ChangedTo vertex_of f i xs ys → map (λ (v : Vertex). v.params) ys ≡ map (λ (v : Vertex). v.params) xs
same_parameters f keeps zero xs ys h = ap (map (λ (v : Vertex). v.params)) (sym h)
same_parameters f keeps (suc i) [] ys h = ap (map (λ (v : Vertex). v.params)) (sym h)
same_parameters f keeps (suc i) (x ∷ xs) [] h = absurd h
same_parameters f keeps (suc i) (x ∷ xs) (y ∷ ys) h =
    ap₂ (λ (p : List ℕ) (rest : List (List ℕ)). p ∷ rest) (ap (λ (v : EventVertex). v.parameters) h.0 ∙ keeps (vertex_of x)) (same_parameters f keeps i xs ys h.1)

-- ---- one vertex more, whose edges are taken out of it meanwhile

same_beside : (ys : List Vertex) (i : ℕ) (x z : Vertex) → i < length ys → x ≡ get_or ys i x → z.params ≡ x.params → map (λ (v : Vertex). v.params) (set ys i z) ≡ map (λ (v : Vertex). v.params) ys
same_beside [] i x z below is same = absurd (omega arith)
same_beside (y ∷ ys) zero x z below is same = ap (λ (ps : List ℕ). ps ∷ map (λ (v : Vertex). v.params) ys) (same ∙ ap (λ (v : Vertex). v.params) is)
same_beside (y ∷ ys) (suc i) x z below is same = ap (λ (rest : List (List ℕ)). y.params ∷ rest) (same_beside ys i x z (omega arith) is same)

pub one_vertex_more : (marks : List Bool) (i : ℕ) (xs ys : List Vertex) (x emptied again v : Vertex) → i < length ys → x ≡ get_or ys i x → again ≡ get_or (set ys i emptied) i again
    → emptied.params ≡ x.params → vertex_of emptied ≡ record (vertex_of x) { edges = [] }
    → vertex_of v ≡ record (vertex_of again) { edges = map (edge_left_in (map (λ (v : Vertex). v.params) (set ys i emptied)) marks) (map edge_of x.edges) }
    → ChangedTo vertex_of (edges_left_in (map (λ (v : Vertex). v.params) xs) marks) i xs ys
    → ChangedTo vertex_of (edges_left_in (map (λ (v : Vertex). v.params) xs) marks) (suc i) xs (set (set ys i emptied) i v)
one_vertex_more marks i xs ys x emptied again v below is there params rest made h =
    let ps = map (λ (v : Vertex). v.params) xs in
    let f = edges_left_in ps marks in
    let same : map (λ (v : Vertex). v.params) (set ys i emptied) ≡ ps = same_beside ys i x emptied below is params ∙ same_parameters f (λ v. refl) i xs ys h in
    let is_emptied : again ≡ emptied = there ∙ get_or-set_same ys i emptied again below in
    let becomes : vertex_of v ≡ f (vertex_of x) =
    made
    ∙ ap₂ (λ (v : EventVertex) (qs : List (List ℕ)). record v { edges = map (edge_left_in qs marks) (map edge_of x.edges) }) (ap vertex_of is_emptied ∙ rest) same in
    subst (ChangedTo vertex_of f (suc i) xs) (sym (set-set ys i emptied v))
    (ChangedTo-step vertex_of f i xs ys x v below (becomes ∙ ap (λ (y : Vertex). f (vertex_of y)) is) h)

-- ---- both steps

module _ (g : EventGraph) (marks : List Bool) where
  same_edge : (e : EventEdge) → edge_left_in (parameters_of g) marks e ≡ sliced_edge g marks e
  same_edge e = ap (λ (ps : List ℕ). record (sliced_edge g marks e) { values = sliced_values marks ps e.values }) (parameters_there g.vertices e.target)

  same_edges : (es : List EventEdge) → map (edge_left_in (parameters_of g) marks) es ≡ map (sliced_edge g marks) es
  same_edges [] = refl
  same_edges (e ∷ es) = ap₂ (λ (e : EventEdge) (es : List EventEdge). e ∷ es) (same_edge e) (same_edges es)

  pub in_two_steps : (vs : List EventVertex) → map (own_parts_left marks) (map (edges_left_in (parameters_of g) marks) vs) ≡ map (sliced_vertex g marks) vs
  in_two_steps [] = refl
  in_two_steps (v ∷ vs) =
      ap₂ (λ (es : List EventEdge) (rest : List EventVertex). record (sliced_vertex g marks v) { edges = es } ∷ rest) (same_edges v.edges) (in_two_steps vs)
