-- How many edges lead to each place, counted in a table of what is kept of the vertices.
use Rattle.std.proofs.Common.{◌≡◌, ◌⊎◌, inl, inr, ℕ, zero, suc, ◌+◌, ◌-◌, ◌<◌, ◌==◌, Bool, true, false, ◌||◌, cond, List, [], ◌∷◌, ◌++◌, map, length, slice_get, slice_index_or, Some, refl, sym, ◌∙◌, ap, ap₂, arith}
use Rattle.std.specs.List.{remove, list_any}
use Rattle.std.proofs.lemmas.Bool.{eqb-true}
use Rattle.model_core.specs.EventGraph.{EventVertex, EventEdge}
use Rattle.model_core.specs.Run.Step.{no_vertex}
use Rattle.model_core.specs.Rules.PlacedEdges.{with_place}
use Rattle.model_core.specs.Rules.Merge.{leads_to}
use Rattle.model_core.proofs.PlacesChanged.{length_placed, placed-there, placed-elsewhere, apart-turned}
use Rattle.merge_rules.specs.KeptPairs.{edges_leading, edges_to, no_pair}
use Rattle.merge_rules.specs.Inner.PairMoves.{with_more, with_fewer, edges_added, all_edges_added, edges_taken}
use Rattle.merge_rules.specs.declared.kept_pairs.KeptPair.{KeptPair}

-- ---- the element at a place

module _ {A : Type 0} where
  pub mapped-there : (f : A → A) (xs : List A) (k : ℕ) (d : A) → k < length xs → slice_index_or (map f xs) k d ≡ f (slice_index_or xs k d)
  mapped-there f [] k d below = absurd (omega arith)
  mapped-there f (x ∷ xs) zero d below = refl
  mapped-there f (x ∷ xs) (suc k) d below = mapped-there f xs k d (omega (arith, below))

-- ---- counts

more-twice : (a b : ℕ) (p : KeptPair) → with_more b (with_more a p) ≡ with_more (a + b) p
more-twice a b p = ap (λ n. let q : KeptPair = record p { incoming = n } in q) (let e : p.incoming + a + b ≡ p.incoming + (a + b) = omega arith in e)

more-none : (p : KeptPair) → with_more 0 p ≡ p
more-none p = ap (λ n. let q : KeptPair = record p { incoming = n } in q) (let e : p.incoming + 0 ≡ p.incoming = omega arith in e)

fewer-twice : (a b : ℕ) (p : KeptPair) → with_fewer b (with_fewer a p) ≡ with_fewer (a + b) p
fewer-twice a b p = ap (λ n. let q : KeptPair = record p { incoming = n } in q) (let e : p.incoming - a - b ≡ p.incoming - (a + b) = omega arith in e)

fewer-none : (p : KeptPair) → with_fewer 0 p ≡ p
fewer-none p = ap (λ n. let q : KeptPair = record p { incoming = n } in q) (let e : p.incoming - 0 ≡ p.incoming = omega arith in e)

-- one more at the place, and none elsewhere
one-counted : (f : ℕ → KeptPair → KeptPair) → ((p : KeptPair) → f 0 p ≡ p) → (t k : ℕ) (pairs : List KeptPair) → k < length pairs
    → slice_index_or (with_place (f 1) t pairs) k no_pair ≡ f (cond (t == k) 1 0) (slice_index_or pairs k no_pair)
one-counted f none t k pairs below = by (t == k) refl where
  by : (b : Bool) → (t == k) ≡ b → slice_index_or (with_place (f 1) t pairs) k no_pair ≡ f (cond b 1 0) (slice_index_or pairs k no_pair)
  by true same = ap (λ j. slice_index_or (with_place (f 1) j pairs) k no_pair) (eqb-true t k same) ∙ placed-there (f 1) k pairs no_pair below
  by false apart = placed-elsewhere (f 1) t k pairs no_pair (apart-turned t k apart) ∙ sym (none (slice_index_or pairs k no_pair))

pub added-long : (es : List EventEdge) (pairs : List KeptPair) → length (edges_added es pairs) ≡ length pairs
added-long [] pairs = refl
added-long (e ∷ es) pairs = added-long es (with_place (with_more 1) e.target pairs) ∙ length_placed (with_more 1) e.target pairs

pub added-at : (es : List EventEdge) (pairs : List KeptPair) (k : ℕ) → k < length pairs → slice_index_or (edges_added es pairs) k no_pair ≡ with_more (edges_leading es k) (slice_index_or pairs k no_pair)
added-at [] pairs k below = sym (more-none (slice_index_or pairs k no_pair))
added-at (e ∷ es) pairs k below =
    added-at es (with_place (with_more 1) e.target pairs) k (omega (arith, below, length_placed (with_more 1) e.target pairs))
    ∙ ap (with_more (edges_leading es k)) (one-counted with_more more-none e.target k pairs below)
    ∙ more-twice (cond (e.target == k) 1 0) (edges_leading es k) (slice_index_or pairs k no_pair)

pub taken-long : (es : List EventEdge) (pairs : List KeptPair) → length (edges_taken es pairs) ≡ length pairs
taken-long [] pairs = refl
taken-long (e ∷ es) pairs = taken-long es (with_place (with_fewer 1) e.target pairs) ∙ length_placed (with_fewer 1) e.target pairs

pub taken-at : (es : List EventEdge) (pairs : List KeptPair) (k : ℕ) → k < length pairs → slice_index_or (edges_taken es pairs) k no_pair ≡ with_fewer (edges_leading es k) (slice_index_or pairs k no_pair)
taken-at [] pairs k below = sym (fewer-none (slice_index_or pairs k no_pair))
taken-at (e ∷ es) pairs k below =
    taken-at es (with_place (with_fewer 1) e.target pairs) k (omega (arith, below, length_placed (with_fewer 1) e.target pairs))
    ∙ ap (with_fewer (edges_leading es k)) (one-counted with_fewer fewer-none e.target k pairs below)
    ∙ fewer-twice (cond (e.target == k) 1 0) (edges_leading es k) (slice_index_or pairs k no_pair)

pub all_added-long : (vs : List EventVertex) (pairs : List KeptPair) → length (all_edges_added vs pairs) ≡ length pairs
all_added-long [] pairs = refl
all_added-long (v ∷ vs) pairs = all_added-long vs (edges_added v.edges pairs) ∙ added-long v.edges pairs

pub all_added-at : (vs : List EventVertex) (pairs : List KeptPair) (k : ℕ) → k < length pairs → slice_index_or (all_edges_added vs pairs) k no_pair ≡ with_more (edges_to vs k) (slice_index_or pairs k no_pair)
all_added-at [] pairs k below = sym (more-none (slice_index_or pairs k no_pair))
all_added-at (v ∷ vs) pairs k below =
    all_added-at vs (edges_added v.edges pairs) k (omega (arith, below, added-long v.edges pairs))
    ∙ ap (with_more (edges_to vs k)) (added-at v.edges pairs k below)
    ∙ more-twice (edges_leading v.edges k) (edges_to vs k) (slice_index_or pairs k no_pair)

pub one_fewer-at : (t k : ℕ) (pairs : List KeptPair) → k < length pairs → slice_index_or (with_place (with_fewer 1) t pairs) k no_pair ≡ with_fewer (cond (t == k) 1 0) (slice_index_or pairs k no_pair)
one_fewer-at = one-counted with_fewer fewer-none

-- ---- edges of changed lists

pub leading-joined : (xs ys : List EventEdge) (k : ℕ) → edges_leading (xs ++ ys) k ≡ edges_leading xs k + edges_leading ys k
leading-joined [] ys k = omega arith
leading-joined (x ∷ xs) ys k = let later = leading-joined xs ys k in omega (arith, later)

pub leading-without : (es : List EventEdge) (place : ℕ) (e : EventEdge) (k : ℕ) → slice_get es place ≡ Some e → cond (e.target == k) 1 0 + edges_leading (remove es place) k ≡ edges_leading es k
leading-without [] place e k there = cc
leading-without (x ∷ es) zero e k there =
    let same : x ≡ e = cc in
    ap (λ (x : EventEdge). cond (x.target == k) 1 0 + edges_leading es k) (sym same)
leading-without (x ∷ es) (suc place) e k there = let later = leading-without es place e k there in omega (arith, later)

-- the edges of one vertex count as they are
pub to-placed : (f : EventVertex → EventVertex) (vs : List EventVertex) (j k : ℕ) → j < length vs
    → edges_to (with_place f j vs) k + edges_leading (slice_index_or vs j no_vertex).edges k ≡ edges_to vs k + edges_leading (f (slice_index_or vs j no_vertex)).edges k
to-placed f [] j k below = absurd (omega arith)
to-placed f (v ∷ vs) zero k below = omega arith
to-placed f (v ∷ vs) (suc j) k below = let later = to-placed f vs j k (omega (arith, below)) in omega (arith, later)

pub to-without : (vs : List EventVertex) (gone k : ℕ) → gone < length vs → edges_to (remove vs gone) k + edges_leading (slice_index_or vs gone no_vertex).edges k ≡ edges_to vs k
to-without [] gone k below = absurd (omega arith)
to-without (v ∷ vs) zero k below = omega arith
to-without (v ∷ vs) (suc gone) k below = let later = to-without vs gone k (omega (arith, below)) in omega (arith, later)

-- ---- none leads there, or one does

edges_leading-any : (es : List EventEdge) (k : ℕ) → (0 < edges_leading es k → list_any (leads_to k) es ≡ true) × (edges_leading es k ≡ 0 → list_any (leads_to k) es ≡ false)
edges_leading-any [] k = ((λ some. absurd (omega (arith, some))), λ none. refl)
edges_leading-any (e ∷ es) k = by (e.target == k) (edges_leading-any es k) where
  by : (b : Bool) → (0 < edges_leading es k → list_any (leads_to k) es ≡ true) × (edges_leading es k ≡ 0 → list_any (leads_to k) es ≡ false)
      → (0 < cond b 1 0 + edges_leading es k → (b || list_any (leads_to k) es) ≡ true) × (cond b 1 0 + edges_leading es k ≡ 0 → (b || list_any (leads_to k) es) ≡ false)
  by true later = ((λ some. refl), λ none. absurd (omega (arith, none)))
  by false later = ((λ some. later.0 (omega (arith, some))), λ none. later.1 (omega (arith, none)))

some_of : (a b : ℕ) → 0 < a + b → (0 < a) ⊎ (0 < b)
some_of zero b some = inr (omega (arith, some))
some_of (suc a) b some = inl (omega arith)

either : (x y : Bool) (a b : ℕ) → (0 < a → x ≡ true) → (0 < b → y ≡ true) → (0 < a) ⊎ (0 < b) → (x || y) ≡ true
either true y a b p q h = refl
either false y a b p q (inl some) = let no : false ≡ true = p some in cc
either false y a b p q (inr some) = q some

neither : (x y : Bool) → x ≡ false → y ≡ false → (x || y) ≡ false
neither x y p q = ap₂ (λ a b. a || b) p q

abbrev pub leads_there : List EventVertex → ℕ → Bool
leads_there vs k = list_any (λ (v : EventVertex). list_any (leads_to k) v.edges) vs

pub some-lead : (vs : List EventVertex) (k : ℕ) → 0 < edges_to vs k → leads_there vs k ≡ true
some-lead [] k some = absurd (omega (arith, some))
some-lead (v ∷ vs) k some = either (list_any (leads_to k) v.edges) (leads_there vs k) (edges_leading v.edges k) (edges_to vs k) (edges_leading-any v.edges k).0 (some-lead vs k) (some_of (edges_leading v.edges k) (edges_to vs k) some)

pub none-lead : (vs : List EventVertex) (k : ℕ) → edges_to vs k ≡ 0 → leads_there vs k ≡ false
none-lead [] k none = refl
none-lead (v ∷ vs) k none = neither (list_any (leads_to k) v.edges) (leads_there vs k) ((edges_leading-any v.edges k).1 (omega (arith, none))) (none-lead vs k (omega (arith, none)))
