-- The heaps and the free nodes after an event has come.
use Rattle.std.proofs.Common.{◌≡◌, ℕ, ◌+◌, ◌^◌, ◌<◌, ◌≤◌, ◌≢◌, ◌⊎◌, inl, inr, cond, ◌==◌, List, [], ◌∷◌, ◌++◌, length, set, Option, Some, None, refl, sym, ◌∙◌, ap, subst, arith, get_or-set_same, get_or-set_other}
use Rattle.std.proofs.lemmas.Bool.Decides.{nat_tests}
use Rattle.std.proofs.lemmas.Bool.{cases_eq, cases_lt}
use Rattle.std.proofs.lemmas.List.{map-set, length-set, length-map, get_or_append_left, get_or_past, get_or_push, length_push, map_push}
use Rattle.event_heap.specs.declared.node.Item.{Item}
use Rattle.event_heap.specs.declared.node.Node.{Node}
use Rattle.event_heap.specs.Inner.Tree.{Tree, Leaf, Fork, leftist_rank, times_in, merged_heap}
use Rattle.event_heap.specs.Inner.NodeTrees.{no_node, node_at, item_at, items_of, TreesApart, IsRebuilt}
use Rattle.event_heap.specs.Inner.Listed.{placed, in_order}
use Rattle.event_heap.specs.Inner.Forest.{occurs, FreeChain, root_at, IsHeapOf, Forest}
use Rattle.event_heap.specs.Inner.Claimed.{lone_node, IsClaimed}
use Rattle.event_heap.proofs.TreeLaws.{times_in-merged, heap-merged, every-merged}
use Rattle.event_heap.proofs.NodeTreeLaws.{tree-along}
use Rattle.event_heap.proofs.ListedLaws.{IsNew, in_order-set, in_order-push}
use Rattle.event_heap.proofs.ForestLaws.{item-there, chain-kept, changed, changed-same, changed-other, separate, held_not_free, item-listed, item-same, some_none}

-- the changes that a claimed node makes
pub record ClaimFacts (old mid : List Node) (x : Item) (chain fewer : List ℕ) (later : Option ℕ) (i : ℕ) : Type 0 where
  pub there : i < length mid
  pub node : node_at mid i ≡ lone_node x
  pub empty : item_at old i ≡ None
  pub others : (q : ℕ) → q ≢ i → node_at mid q ≡ node_at old q
  pub longer : length old ≤ length mid
  pub inside : (q : ℕ) → q ≢ i → q < length mid → q < length old
  pub chained : FreeChain old fewer later
  pub less : (q : ℕ) → occurs q fewer ≤ occurs q chain
  pub left_out : occurs i fewer ≡ 0
  pub rest : (q : ℕ) → q ≢ i → occurs q fewer ≡ occurs q chain
  pub one_more : in_order (items_of mid) ≡ placed x (in_order (items_of old))

-- no event has this number
abbrev pub HasNewNumber : Item → List Node → Type 0
HasNewNumber x nodes = (q : ℕ) (y : Item) → item_at nodes q ≡ Some y → y.number ≢ x.number

is_new : (x : Item) (nodes : List Node) → HasNewNumber x nodes → IsNew x (items_of nodes)
is_new x nodes new j y g = new j y (sym (item-listed nodes j) ∙ g)

beyond : (nodes : List Node) (n : Node) (q : ℕ) → q ≢ length nodes → node_at (nodes ++ n ∷ []) q ≡ node_at nodes q
beyond nodes n q ne = by (cases_lt q (length nodes)) where
  by : (q < length nodes) ⊎ (length nodes ≤ q) → node_at (nodes ++ n ∷ []) q ≡ node_at nodes q
  by (inl l) = get_or_append_left nodes (n ∷ []) no_node q l
  by (inr g) = get_or_past (nodes ++ n ∷ []) q no_node (omega (arith, length_push nodes n)) ∙ sym (get_or_past nodes q no_node g)

-- a new node
pushed-facts : (old mid : List Node) (x : Item) → HasNewNumber x old → mid ≡ old ++ lone_node x ∷ [] → ClaimFacts old mid x [] [] None (length old)
pushed-facts old mid x new e =
    let len : length mid ≡ length old + 1 = ap length e ∙ length_push old (lone_node x) in
    record {
      there = omega arith;
      node = rw e (get_or_push old (lone_node x) no_node (length old) refl);
      empty = ap (λ (n : Node). n.item) (get_or_past old (length old) no_node (omega arith));
      others = λ q ne. rw e (beyond old (lone_node x) q ne);
      longer = omega arith;
      inside = λ q ne l. omega arith;
      chained = tt;
      less = λ q. omega arith;
      left_out = refl;
      rest = λ q ne. refl;
      one_more = rw e (ap in_order (map_push (λ (n : Node). n.item) old (lone_node x)) ∙ in_order-push x (items_of old) (is_new x old new));
    }

-- the first free node
reused-facts : (old mid : List Node) (x : Item) (i : ℕ) (fewer : List ℕ) → HasNewNumber x old → i < length old → item_at old i ≡ None → FreeChain old fewer (node_at old i).left → ((q : ℕ) → occurs q (i ∷ fewer) ≤ 1) → mid ≡ set old i (lone_node x) → ClaimFacts old mid x (i ∷ fewer) fewer (node_at old i).left i
reused-facts old mid x i fewer new within empty chained once e =
    let len : length mid ≡ length old = ap length e ∙ length-set old i (lone_node x) in
    let once_i = once i in
    record {
      there = omega arith;
      node = rw e (get_or-set_same old i (lone_node x) no_node within);
      empty = empty;
      others = λ q ne. rw e (get_or-set_other old i q (lone_node x) no_node ne);
      longer = omega arith;
      inside = λ q ne l. omega arith;
      chained = chained;
      less = λ q. omega arith;
      left_out = grind (arith, nat_tests);
      rest = λ q ne. grind (arith, nat_tests);
      one_more = rw e (ap in_order (map-set (λ (n : Node). n.item) old i (lone_node x)) ∙ in_order-set x (items_of old) i (omega (arith, length-map old (λ (n : Node). n.item))) (item-listed old i ∙ empty) (is_new x old new));
    }

pub claim-facts : (old mid : List Node) (x : Item) (chain : List ℕ) (free later : Option ℕ) (i : ℕ) → HasNewNumber x old → FreeChain old chain free → ((q : ℕ) → occurs q chain ≤ 1) → IsClaimed old mid x free later i → (fewer : List ℕ) × ClaimFacts old mid x chain fewer later i
claim-facts old mid x [] None later i new c once h = ([], rw (h.0, h.1) (pushed-facts old mid x new h.2))
claim-facts old mid x [] (Some j) later i new c once h = absurd c
claim-facts old mid x (p ∷ ps) None later i new c once h = absurd c
claim-facts old mid x (p ∷ ps) (Some j) later i new c once h =
    let same : i ≡ p = h.0 ∙ c.0 in
    let at : later ≡ (node_at old p).left = h.1 ∙ ap (λ j. (node_at old j).left) (c.0) in
    let set_at : mid ≡ set old p (lone_node x) = h.2 ∙ ap (λ j. set old j (lone_node x)) (c.0) in
    (ps, rw (same, at) (reused-facts old mid x p ps new c.1 c.2 c.3 once set_at))

module _ (old mid : List Node) (roots : List (Option ℕ)) (free later : Option ℕ) (trees : ℕ → Tree) (chain fewer : List ℕ) (v i : ℕ) (x : Item) (f : Forest old roots free trees chain) (own : x.entry.vertex ≡ v) (v_there : v < length roots) (number : HasNewNumber x old) (k : ClaimFacts old mid x chain fewer later i) where
  not_held : (u : ℕ) → times_in i (trees u) ≡ 0
  not_held u = by (cases_lt 0 (times_in i (trees u))) where
    by : (0 < times_in i (trees u)) ⊎ (times_in i (trees u) ≤ 0) → times_in i (trees u) ≡ 0
    by (inl m) = let (y, e) = item-there old (trees u) (root_at roots u) i (f.heaps u).is_tree m in absurd (some_none (item_at old i) y e k.empty)
    by (inr z) = omega arith

  -- the heap of the vertex and the new node have no node in common
  pub apart-added : leftist_rank (trees v) + 1 < 2 ^ 32 → TreesApart mid (trees v) (Fork i x Leaf Leaf) (root_at roots v) (Some i)
  apart-added ranks = record {
    one = tree-along old mid (trees v) (root_at roots v) k.longer (λ q m. k.others q (λ s. absurd (omega (arith, subst (λ q. 0 < times_in q (trees v)) s m, not_held v)))) (f.heaps v).is_tree;
    other = (refl, record { within = k.there; item = ap (λ n. n.item) k.node; rank_is = ap (λ n. n.rank) k.node; left_rank_is = ap (λ n. n.left_rank) k.node }, rw k.node tt, rw k.node tt);
    apart = λ q. by q (cases_eq q i);
    ranks = ranks;
  } where
    by : (q : ℕ) → (q ≡ i) ⊎ (q ≢ i) → times_in q (trees v) + times_in q (Fork i x Leaf Leaf) ≤ 1
    by q (inl s) = let z : times_in q (trees v) ≡ 0 = ap (λ q. times_in q (trees v)) s ∙ not_held v in grind (arith, nat_tests)
    by q (inr ne) = let o = (f.heaps v).once q in grind (arith, nat_tests)

  module _ (new : List Node) (root : Option ℕ) (b : IsRebuilt mid new (merged_heap (trees v) (Fork i x Leaf Leaf)) root) where
    times_in-grown : (q : ℕ) → times_in q (merged_heap (trees v) (Fork i x Leaf Leaf)) ≡ times_in q (trees v) + cond (q == i) 1 0
    times_in-grown q = let parts = times_in-merged q (trees v) (Fork i x Leaf Leaf) in omega arith

    pub item_i : item_at new i ≡ Some x
    item_i = item-same new mid i b.items ∙ ap (λ n. n.item) k.node

    item_q : (q : ℕ) → q ≢ i → item_at new q ≡ item_at old q
    item_q q ne = item-same new mid q b.items ∙ ap (λ n. n.item) (k.others q ne)

    far : (q : ℕ) → q ≢ i → times_in q (trees v) ≡ 0 → node_at new q ≡ node_at old q
    far q ne z = b.others q (let parts = times_in-grown q in grind (arith, nat_tests)) ∙ k.others q ne

    longer : length old ≤ length new
    longer = let a = b.count in let c = k.longer in omega arith

    heap_grown : IsHeapOf new v (merged_heap (trees v) (Fork i x Leaf Leaf)) root
    heap_grown = record {
      is_tree = b.is_tree;
      heap = heap-merged (trees v) (Fork i x Leaf Leaf) (f.heaps v).heap (tt, tt, omega arith, tt, tt);
      once = λ q. by q (cases_eq q i);
      own = every-merged (λ y. y.entry.vertex ≡ v) (trees v) (Fork i x Leaf Leaf) (f.heaps v).own (own, tt, tt);
    } where
      by : (q : ℕ) → (q ≡ i) ⊎ (q ≢ i) → times_in q (merged_heap (trees v) (Fork i x Leaf Leaf)) ≤ 1
      by q (inl s) = let parts = times_in-grown q in let z : times_in q (trees v) ≡ 0 = ap (λ q. times_in q (trees v)) s ∙ not_held v in grind (arith, nat_tests)
      by q (inr ne) = let parts = times_in-grown q in let o = (f.heaps v).once q in grind (arith, nat_tests)

    heap_beside : (u : ℕ) → u ≢ v → IsHeapOf new u (trees u) (root_at roots u)
    heap_beside u ne =
        let h = f.heaps u in
        record {
          is_tree = tree-along old new (trees u) (root_at roots u) longer
              (λ q m. far q (λ s. absurd (omega (arith, subst (λ q. 0 < times_in q (trees u)) s m, not_held u))) (separate old u v (trees u) (trees v) (root_at roots u) (root_at roots v) q h (f.heaps v) ne m))
              h.is_tree;
          heap = h.heap;
          once = h.once;
          own = h.own;
        }

    heap_each : (u : ℕ) → IsHeapOf new u (changed trees v (merged_heap (trees v) (Fork i x Leaf Leaf)) u) (root_at (set roots v root) u)
    heap_each u = by (cases_eq u v) where
      by : (u ≡ v) ⊎ (u ≢ v) → IsHeapOf new u (changed trees v (merged_heap (trees v) (Fork i x Leaf Leaf)) u) (root_at (set roots v root) u)
      by (inl s) =
          subst (λ u. IsHeapOf new u (changed trees v (merged_heap (trees v) (Fork i x Leaf Leaf)) u) (root_at (set roots v root) u)) (sym s)
          (rw (changed-same trees v v (merged_heap (trees v) (Fork i x Leaf Leaf)) refl, get_or-set_same roots v root None v_there) heap_grown)
      by (inr ne) = rw (changed-other trees v u (merged_heap (trees v) (Fork i x Leaf Leaf)) ne, get_or-set_other roots v u root None ne) (heap_beside u ne)

    was_there : (q : ℕ) (y : Item) → q ≢ i → item_at new q ≡ Some y → item_at old q ≡ Some y
    was_there q y ne g = sym (item_q q ne) ∙ g

    -- the heaps and the free nodes once the event has come
    pub forest-added : Forest new (set roots v root) later (changed trees v (merged_heap (trees v) (Fork i x Leaf Leaf))) fewer
    forest-added = record {
      heaps = heap_each;
      chained = chain-kept old new fewer later longer
          (λ q m. far q (λ s. absurd (omega (arith, subst (λ q. 0 < occurs q fewer) s m, k.left_out))) (held_not_free old chain free (trees v) (root_at roots v) q f.chained (f.heaps v).is_tree (omega (arith, k.less q))))
          k.chained;
      once = λ q. omega (arith, k.less q, f.once q);
      held = λ q y g. by_held q y g (cases_eq q i);
      unheld = λ q l g. by_unheld q l g (cases_eq q i);
      numbers = λ p q a c g h same. by_numbers p q a c g h same (cases_eq p i) (cases_eq q i);
    } where
      grown_here : (q : ℕ) (y : Item) → (y.entry.vertex ≡ v) ⊎ (y.entry.vertex ≢ v) → times_in q (trees y.entry.vertex) ≡ 1 → q ≢ i → times_in q (changed trees v (merged_heap (trees v) (Fork i x Leaf Leaf)) y.entry.vertex) ≡ 1
      grown_here q y (inl s) was ne =
          let parts = times_in-grown q in
          let here : times_in q (trees v) ≡ 1 = ap (λ u. times_in q (trees u)) (sym s) ∙ was in
          let one : times_in q (merged_heap (trees v) (Fork i x Leaf Leaf)) ≡ 1 = grind (arith, nat_tests) in
          rw (changed-same trees v y.entry.vertex (merged_heap (trees v) (Fork i x Leaf Leaf)) s) one
      grown_here q y (inr o) was ne = rw (changed-other trees v y.entry.vertex (merged_heap (trees v) (Fork i x Leaf Leaf)) o) was

      by_held : (q : ℕ) (y : Item) → item_at new q ≡ Some y → (q ≡ i) ⊎ (q ≢ i) → times_in q (changed trees v (merged_heap (trees v) (Fork i x Leaf Leaf)) y.entry.vertex) ≡ 1
      by_held q y g (inl s) =
          let there : item_at new q ≡ Some x = ap (item_at new) s ∙ item_i in
          let is : x ≡ y = cc in
          let vertex : y.entry.vertex ≡ v = ap (λ (y : Item). y.entry.vertex) (sym is) ∙ own in
          let parts = times_in-grown q in
          let z : times_in q (trees v) ≡ 0 = ap (λ q. times_in q (trees v)) s ∙ not_held v in
          let one : times_in q (merged_heap (trees v) (Fork i x Leaf Leaf)) ≡ 1 = grind (arith, nat_tests) in
          rw (changed-same trees v y.entry.vertex (merged_heap (trees v) (Fork i x Leaf Leaf)) vertex) one
      by_held q y g (inr ne) = grown_here q y (cases_eq y.entry.vertex v) (f.held q y (was_there q y ne g)) ne

      by_unheld : (q : ℕ) → q < length new → item_at new q ≡ None → (q ≡ i) ⊎ (q ≢ i) → occurs q fewer ≡ 1
      by_unheld q l g (inl s) = absurd (some_none (item_at new q) x (ap (item_at new) s ∙ item_i) g)
      by_unheld q l g (inr ne) = k.rest q ne ∙ f.unheld q (k.inside q ne (omega (arith, b.count))) (sym (item_q q ne) ∙ g)

      by_numbers : (p q : ℕ) (a c : Item) → item_at new p ≡ Some a → item_at new q ≡ Some c → a.number ≡ c.number → (p ≡ i) ⊎ (p ≢ i) → (q ≡ i) ⊎ (q ≢ i) → p ≡ q
      by_numbers p q a c g h same (inl s) (inl t) = s ∙ sym t
      by_numbers p q a c g h same (inr m) (inr n) = f.numbers p q a c (was_there p a m g) (was_there q c n h) same
      by_numbers p q a c g h same (inl s) (inr n) =
          let there : item_at new p ≡ Some x = ap (item_at new) s ∙ item_i in
          let is : x ≡ a = cc in
          absurd (number q c (was_there q c n h) (sym same ∙ ap (λ (y : Item). y.number) (sym is)))
      by_numbers p q a c g h same (inr m) (inl t) =
          let there : item_at new q ≡ Some x = ap (item_at new) t ∙ item_i in
          let is : x ≡ c = cc in
          absurd (number p a (was_there p a m g) (same ∙ ap (λ (y : Item). y.number) (sym is)))

    -- and the list by numbers has one event more
    pub in_order-added : in_order (items_of new) ≡ placed x (in_order (items_of old))
    in_order-added = ap in_order b.items ∙ k.one_more
