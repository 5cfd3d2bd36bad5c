-- What is kept of new vertices is right, and stays right where one is looked at.
use Rattle.std.proofs.Common.{◌≡◌, ◌⊎◌, inl, inr, ℕ, zero, suc, ◌<◌, ◌==◌, nat_lt, Bool, true, false, List, [], ◌∷◌, map, length, slice_index_or, slice_set, get_or, Some, refl, sym, ◌∙◌, ap, subst, arith}
use Rattle.std.proofs.lemmas.Bool.Decides.{nat_tests}
use Rattle.std.proofs.lemmas.List.{length-map}
use Rattle.std.proofs.lemmas.Bool.{eqb-true}
use Rattle.model_core.specs.declared.vertex.Vertex.{Vertex}
use Rattle.model_core.specs.EventGraph.{EventGraph}
use Rattle.model_core.specs.Run.Step.{no_vertex, vertex_at}
use Rattle.model_core.specs.Code.Views.{vertex_of}
use Rattle.model_core.specs.Rules.PlacedEdges.{with_place}
use Rattle.model_core.proofs.Images.{at-map}
use Rattle.model_core.proofs.PlacesChanged.{set-with_place, length_placed, placed-there, placed-elsewhere}
use Rattle.merge_rules.specs.PairFits.{acts_unseen}
use Rattle.merge_rules.specs.Growth.{pair_growth}
use Rattle.merge_rules.specs.KeptPairs.{edges_to, has_incoming, FitIsRight, PairIsRight, PairsAreRight, no_pair}
use Rattle.merge_rules.specs.Inner.PairMoves.{fresh_pair, with_more, all_edges_added}
use Rattle.merge_rules.specs.declared.kept_pairs.KeptPair.{KeptPair}
use Rattle.merge_rules.specs.declared.kept_pairs.PairAnswer.{PairAnswer}
use Rattle.merge_rules.proofs.PairsBetweenMerges.LedPlaces.{all_added-long, all_added-at, some-lead, none-lead}

-- ---- at the beginning

pub are-fresh_pair : (g : EventGraph) → PairsAreRight g (all_edges_added g.vertices (map fresh_pair g.vertices))
are-fresh_pair g = record {
  long = all_added-long g.vertices (map fresh_pair g.vertices) ∙ length-map g.vertices fresh_pair;
  each = λ k below.
      subst (PairIsRight g k)
      (sym (all_added-at g.vertices (map fresh_pair g.vertices) k (omega (arith, below, length-map g.vertices fresh_pair)) ∙ ap (with_more (edges_to g.vertices k)) (at-map fresh_pair g.vertices k no_vertex)))
      (let p : PairIsRight g k (with_more (edges_to g.vertices k) (fresh_pair (vertex_at g k))) = record { target = refl; answer = tt; unseen = tt; incoming = omega arith } in p);
}

-- ---- one of them

pub at-is : {A : Type 0} (xs : List A) (k : ℕ) (x d : A) → k < length xs → x ≡ get_or xs k x → slice_index_or xs k d ≡ x
at-is [] k x d below is = absurd (omega (arith, below))
at-is (y ∷ xs) zero x d below is = sym is
at-is (y ∷ xs) (suc k) x d below is = at-is xs k x d (omega (arith, below)) is

module _ (g : EventGraph) (pairs : List KeptPair) (are : PairsAreRight g pairs) (k : ℕ) (x : KeptPair) (below : k < length g.vertices) (at : x ≡ get_or pairs k x) where
  within : k < length pairs
  within = omega (arith, below, are.long)

  pub pair-at : PairIsRight g k x
  pair-at = subst (PairIsRight g k) (at-is pairs k x no_pair within at) (are.each k below)

  -- something else is kept of it that is right
  module _ (y : KeptPair) (here : PairIsRight g k y) where
    each : (j : ℕ) → j < length g.vertices → PairIsRight g j (slice_index_or (with_place (λ p. y) k pairs) j no_pair)
    each j below = by (j == k) refl where
      by : (c : Bool) → (j == k) ≡ c → PairIsRight g j (slice_index_or (with_place (λ p. y) k pairs) j no_pair)
      by true same =
          subst (λ j. PairIsRight g j (slice_index_or (with_place (λ p. y) k pairs) j no_pair)) (sym (eqb-true j k same))
          (subst (PairIsRight g k) (sym (placed-there (λ p. y) k pairs no_pair within)) here)
      by false apart = subst (PairIsRight g j) (sym (placed-elsewhere (λ p. y) k j pairs no_pair apart)) (are.each j below)

    still-are : PairsAreRight g (slice_set pairs k y)
    still-are = subst (PairsAreRight g) (sym (set-with_place (λ p. y) pairs k x y within at refl)) (record { long = length_placed (λ p. y) k pairs ∙ are.long; each = each })

  -- its answer is known now, or whether it acts unseen
  pub are-asked : (s : PairAnswer) → FitIsRight s (pair_growth g k) → PairsAreRight g (slice_set pairs k (let y : KeptPair = record x { answer = s } in y))
  are-asked s right = let was = pair-at in still-are (record x { answer = s }) (record { target = was.target; answer = right; unseen = was.unseen; incoming = was.incoming })

  pub are-seen : (unseen : Bool) → unseen ≡ acts_unseen g (vertex_at g k) → PairsAreRight g (slice_set pairs k (let y : KeptPair = record x { unseen = Some unseen } in y))
  are-seen unseen is = let was = pair-at in still-are (record x { unseen = Some unseen }) (record { target = was.target; answer = was.answer; unseen = is; incoming = was.incoming })

  -- whether an edge leads there
  pub incoming-any : nat_lt 0 x.incoming ≡ has_incoming g k
  incoming-any = by (some_or_none x.incoming) where
    some_or_none : (n : ℕ) → (0 < n) ⊎ (n ≡ 0)
    some_or_none zero = inr refl
    some_or_none (suc n) = inl (omega arith)

    is_some : (n : ℕ) → 0 < n → nat_lt 0 n ≡ true
    is_some n some = grind (arith, nat_tests)

    is_none : (n : ℕ) → n ≡ 0 → nat_lt 0 n ≡ false
    is_none n none = grind (arith, nat_tests)

    by : (0 < x.incoming) ⊎ (x.incoming ≡ 0) → nat_lt 0 x.incoming ≡ has_incoming g k
    by (inl some) = is_some x.incoming some ∙ sym (some-lead g.vertices k (subst (λ n. 0 < n) pair-at.incoming some))
    by (inr none) = is_none x.incoming none ∙ sym (none-lead g.vertices k (sym pair-at.incoming ∙ none))

-- the edges of the vertex that the code reads are those of the graph's
pub edges-read : (vs : List Vertex) (k : ℕ) (v : Vertex) → k < length vs → v ≡ get_or vs k v → slice_index_or (map vertex_of vs) k no_vertex ≡ vertex_of v
edges-read [] k v below is = absurd (omega (arith, below))
edges-read (w ∷ vs) zero v below is = ap vertex_of (sym is)
edges-read (w ∷ vs) (suc k) v below is = edges-read vs k v (omega (arith, below)) is
