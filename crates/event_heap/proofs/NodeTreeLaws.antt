-- How the nodes of a tree come from the nodes of its parts.
use Rattle.std.proofs.Common.{◌≡◌, ℕ, ◌+◌, ◌<◌, ◌≤◌, ◌≢◌, true, false, cond, nat_lt, ◌==◌, List, length, set, Option, Some, None, IfSome, refl, sym, ◌∙◌, ap, subst, arith, get_or-set_same, get_or-set_other}
use Rattle.std.proofs.lemmas.List.{map-set, length-set, set-get_or, get_or-map}
use Rattle.std.proofs.lemmas.Bool.Decides.{nat_tests}
use Rattle.event_heap.specs.declared.node.Item.{Item}
use Rattle.event_heap.specs.declared.node.Node.{Node}
use Rattle.event_heap.specs.Inner.Tree.{Tree, Leaf, Fork, leftist_rank, times_in, seat}
use Rattle.event_heap.specs.Inner.NodeTrees.{no_node, node_at, item_at, items_of, rank_at, IsFork, IsTreeFrom, IsRebuilt}
use Rattle.event_heap.specs.Inner.Seated.{hung, seated}
use Rattle.event_heap.proofs.TreeLaws.{times_in-seat}

-- a tree depends on its own nodes alone
pub tree-along : (old new : List Node) (t : Tree) (root : Option ℕ) → length old ≤ length new → ((q : ℕ) → 0 < times_in q t → node_at new q ≡ node_at old q) → IsTreeFrom old t root → IsTreeFrom new t root
tree-along old new Leaf None len same h = tt
tree-along old new Leaf (Some i) len same h = h
tree-along old new (Fork p x l r) None len same h = h
tree-along old new (Fork p x l r) (Some i) len same h =
    let here : node_at new p ≡ node_at old p = same p (grind (arith, nat_tests)) in
    let fork : IsFork new p x l r = record { within = omega (arith, h.1.within); item = ap (λ n. n.item) here ∙ h.1.item; rank_is = ap (λ n. n.rank) here ∙ h.1.rank_is; left_rank_is = ap (λ n. n.left_rank) here ∙ h.1.left_rank_is } in (
      h.0,
      fork,
      tree-along old new l (node_at new p).left len (λ q m. same q (omega arith)) (subst (λ (n : Node). IsTreeFrom old l n.left) (sym here) h.2),
      tree-along old new r (node_at new p).right len (λ q m. same q (omega arith)) (subst (λ (n : Node). IsTreeFrom old r n.right) (sym here) h.3),
    )

pub tree-kept : (old new : List Node) (t : Tree) (root : Option ℕ) → length new ≡ length old → ((q : ℕ) → 0 < times_in q t → node_at new q ≡ node_at old q) → IsTreeFrom old t root → IsTreeFrom new t root
tree-kept old new t root len same h = tree-along old new t root (omega arith) same h

-- the rank kept at the root is that of the tree
pub rank_at-tree : (nodes : List Node) (t : Tree) (root : Option ℕ) → IsTreeFrom nodes t root → rank_at nodes root ≡ leftist_rank t
rank_at-tree nodes Leaf None h = refl
rank_at-tree nodes Leaf (Some i) h = absurd h
rank_at-tree nodes (Fork p x l r) None h = absurd h
rank_at-tree nodes (Fork p x l r) (Some i) h = rw (h.0) h.1.rank_is

pub root-there : (nodes : List Node) (t : Tree) (root : Option ℕ) → IsTreeFrom nodes t root → IfSome root (λ i. i < length nodes)
root-there nodes Leaf None h = tt
root-there nodes Leaf (Some i) h = absurd h
root-there nodes (Fork p x l r) None h = absurd h
root-there nodes (Fork p x l r) (Some i) h = omega (arith, h.0, h.1.within)

pub items-set : (nodes : List Node) (i : ℕ) (n : Node) → i < length nodes → n.item ≡ item_at nodes i → items_of (set nodes i n) ≡ items_of nodes
items-set nodes i n l e =
    map-set (λ (n : Node). n.item) nodes i n ∙ ap (λ o. set (items_of nodes) i o) (e ∙ sym (get_or-map (λ (n : Node). n.item) nodes i no_node None l)) ∙ set-get_or (items_of nodes) i None

seated-item : (n : Node) (c : ℕ) → (seated n c).item ≡ n.item
seated-item n c =
    elim (nat_lt n.left_rank c) as (λ b. (cond b (record n { left = n.right; right = n.left; rank = n.left_rank + 1; left_rank = c }) (record n { rank = c + 1 })).item ≡ n.item) [
      | true ↦ refl
      | false ↦ refl
    ]

-- a node with its two heaps is a tree, once its rank is set
seated-tree : (mid new : List Node) (p : ℕ) (x : Item) (l u : Tree) (c : ℕ) → p < length mid → item_at mid p ≡ Some x → (node_at mid p).left_rank ≡ leftist_rank l → c ≡ leftist_rank u → IsTreeFrom mid l (node_at mid p).left → IsTreeFrom mid u (node_at mid p).right → times_in p l ≡ 0 → times_in p u ≡ 0 → length new ≡ length mid → node_at new p ≡ seated (node_at mid p) c → ((q : ℕ) → q ≢ p → node_at new q ≡ node_at mid q) → IsTreeFrom new (seat p x l u) (Some p)
seated-tree mid new p x l u c within item rank_left rank_under left under no_l no_u len here others =
    let kept_l : IsTreeFrom new l (node_at mid p).left = tree-kept mid new l (node_at mid p).left len (λ q m. others q (λ e. absurd (omega (arith, m, subst (λ (q : ℕ). times_in q l ≡ 0) (sym e) no_l)))) left in
    let kept_u : IsTreeFrom new u (node_at mid p).right = tree-kept mid new u (node_at mid p).right len (λ q m. others q (λ e. absurd (omega (arith, m, subst (λ (q : ℕ). times_in q u ≡ 0) (sym e) no_u)))) under in
    elim (nat_lt (leftist_rank l) (leftist_rank u)) as (λ b. nat_lt (leftist_rank l) (leftist_rank u) ≡ b → IsTreeFrom new (cond b (Fork p x u l) (Fork p x l u)) (Some p)) [
      | true ↦ λ e.
          let is : node_at new p ≡ record (node_at mid p) { left = (node_at mid p).right; right = (node_at mid p).left; rank = (node_at mid p).left_rank + 1; left_rank = c } = here ∙ rw (rank_left, rank_under, e) refl in (
            refl,
            record { within = omega arith; item = ap (λ n. n.item) is ∙ item; rank_is = ap (λ n. n.rank) is ∙ rw rank_left (omega arith); left_rank_is = ap (λ n. n.left_rank) is ∙ rank_under },
            subst (λ (n : Node). IsTreeFrom new u n.left) (sym is) kept_u,
            subst (λ (n : Node). IsTreeFrom new l n.right) (sym is) kept_l,
          )
      | false ↦ λ e.
          let is : node_at new p ≡ record (node_at mid p) { rank = c + 1 } = here ∙ rw (rank_left, rank_under, e) refl in (
            refl,
            record { within = omega arith; item = ap (λ n. n.item) is ∙ item; rank_is = ap (λ n. n.rank) is ∙ rw rank_under (omega arith); left_rank_is = ap (λ n. n.left_rank) is ∙ rank_left },
            subst (λ (n : Node). IsTreeFrom new l n.left) (sym is) kept_l,
            subst (λ (n : Node). IsTreeFrom new u n.right) (sym is) kept_u,
          )
    ] refl

not_here : (q p n : ℕ) → cond (q == p) 1 0 + n ≡ 0 → q ≢ p
not_here q p n e same = grind (arith, nat_tests)

-- a node has a heap on its right, and everything else is as it was
pub record IsHung (old new : List Node) (p below : ℕ) : Type 0 where
  pub within : p < length old
  pub here : node_at new p ≡ hung (node_at old p) below
  pub others : (q : ℕ) → q ≢ p → node_at new q ≡ node_at old q
  pub count : length new ≡ length old
  pub items : items_of new ≡ items_of old

pub hung_by_set : (old new : List Node) (p below : ℕ) → p < length old → new ≡ set old p (hung (node_at old p) below) → IsHung old new p below
hung_by_set old new p below within e = record {
  within = within;
  here = rw e (get_or-set_same old p (hung (node_at old p) below) no_node within);
  others = λ q ne. rw e (get_or-set_other old p q (hung (node_at old p) below) no_node ne);
  count = rw e (length-set old p (hung (node_at old p) below));
  items = rw e (items-set old p (hung (node_at old p) below) within refl);
}

pub hung_already : (old : List Node) (p below : ℕ) → p < length old → (node_at old p).right ≡ Some below → IsHung old old p below
hung_already old p below within e = record {
  within = within;
  here = ap (λ (o : Option ℕ). record (node_at old p) { right = o }) e;
  others = λ q ne. refl;
  count = refl;
  items = refl;
}

-- a tree without the node is as it was
pub hung_is_tree : (old new : List Node) (p below : ℕ) (t : Tree) (root : Option ℕ) → IsHung old new p below → times_in p t ≡ 0 → IsTreeFrom old t root → IsTreeFrom new t root
hung_is_tree old new p below t root k none h = tree-kept old new t root k.count (λ q m. k.others q (λ e. absurd (omega (arith, m, subst (λ (q : ℕ). times_in q t ≡ 0) (sym e) none)))) h

-- a node over its left heap and one that was rebuilt on its right
pub seat-rebuilds : (old at mid new : List Node) (p : ℕ) (x : Item) (l r u : Tree) (below c : ℕ) → IsFork old p x l r → IsTreeFrom old l (node_at old p).left → IsHung old at p below → IsRebuilt at mid u (Some below) → ((q : ℕ) → cond (q == p) 1 0 + (times_in q l + times_in q u) ≤ 1) → c ≡ leftist_rank u → new ≡ set mid p (seated (node_at mid p) c) → IsRebuilt old new (seat p x l u) (Some p)
seat-rebuilds old at mid new p x l r u below c fork left k rebuilt apart rank_under e =
    let at_p = apart p in
    let no_l : times_in p l ≡ 0 = grind (arith, nat_tests) in
    let no_u : times_in p u ≡ 0 = grind (arith, nat_tests) in
    let is_p : node_at mid p ≡ hung (node_at old p) below = rebuilt.others p no_u ∙ k.here in
    let within : p < length mid = omega (arith, rebuilt.count, k.count, fork.within) in
    let here : node_at new p ≡ seated (node_at mid p) c = rw e (get_or-set_same mid p (seated (node_at mid p) c) no_node within) in
    let elsewhere : (q : ℕ) → q ≢ p → node_at new q ≡ node_at mid q = λ q ne. rw e (get_or-set_other mid p q (seated (node_at mid p) c) no_node ne) in
    let len : length new ≡ length mid = rw e (length-set mid p (seated (node_at mid p) c)) in
    let left_at : IsTreeFrom at l (node_at old p).left = hung_is_tree old at p below l (node_at old p).left k no_l left in
    let left_mid : IsTreeFrom mid l (node_at mid p).left = subst (λ (n : Node). IsTreeFrom mid l n.left) (sym is_p) (tree-kept at mid l (node_at old p).left rebuilt.count (λ q m. rebuilt.others q (omega (arith, apart q))) left_at) in
    let under_mid : IsTreeFrom mid u (node_at mid p).right = subst (λ (n : Node). IsTreeFrom mid u n.right) (sym is_p) rebuilt.is_tree in
    record {
      is_tree = seated-tree mid new p x l u c within (ap (λ n. n.item) is_p ∙ fork.item) (ap (λ n. n.left_rank) is_p ∙ fork.left_rank_is) rank_under left_mid under_mid no_l no_u len here elsewhere;
      others = λ q none.
          let apart_q : cond (q == p) 1 0 + (times_in q l + times_in q u) ≡ 0 = sym (times_in-seat q p x l u) ∙ none in
          let ne = not_here q p _ apart_q in
          elsewhere q ne ∙ rebuilt.others q (omega (arith, apart_q)) ∙ k.others q ne;
      count = len ∙ rebuilt.count ∙ k.count;
      items = rw e (items-set mid p (seated (node_at mid p) c) within (seated-item (node_at mid p) c)) ∙ rebuilt.items ∙ k.items;
    }
