-- One step of merging two heaps.
use Rattle.std.proofs.Common.{◌≡◌, ℕ, suc, ◌+◌, ◌^◌, ◌<◌, ◌≤◌, true, false, List, set, length, Option, Some, None, IsSome, refl, sym, ◌∙◌, ap, subst, arith, get_or-set_same}
use Rattle.std.proofs.lemmas.Bool.Decides.{nat_tests}
use Rattle.event_heap.specs.declared.node.Item.{Item}
use Rattle.event_heap.specs.declared.node.Node.{Node}
use Rattle.event_heap.specs.Inner.Tree.{Tree, Leaf, Fork, leftist_rank, times_in, precedes, merged_heap, heap_over}
use Rattle.event_heap.specs.Inner.NodeTrees.{no_node, node_at, item_at, rank_at, IsFork, IsTreeFrom, TreesApart, IsRebuilt}
use Rattle.event_heap.specs.Inner.Seated.{hung, seated, CanCompare}
use Rattle.event_heap.proofs.TreeLaws.{times_in-merged, leftist_rank-merged, second_over, first_over}
use Rattle.event_heap.proofs.NodeTreeLaws.{rank_at-tree, IsHung, hung_by_set, hung_already, hung_is_tree, seat-rebuilds}

-- a tree, read from its node on
pub record Opened (nodes : List Node) (p : ℕ) (t : Tree) (x : Item) (l r : Tree) : Type 0 where
  pub is : t ≡ Fork p x l r
  pub fork : IsFork nodes p x l r
  pub left : IsTreeFrom nodes l (node_at nodes p).left
  pub right : IsTreeFrom nodes r (node_at nodes p).right

pub opened : (nodes : List Node) (t : Tree) (p : ℕ) → IsTreeFrom nodes t (Some p) → (x : Item) × (l : Tree) × (r : Tree) × Opened nodes p t x l r
opened nodes Leaf p h = absurd h
opened nodes (Fork q x l r) p h =
    subst (λ (q : ℕ). (x' : Item) × (l' : Tree) × (r' : Tree) × Opened nodes p (Fork q x l r) x' l' r') (h.0)
    (x, l, r, record { is = refl; fork = subst (λ q. IsFork nodes q x l r) (sym (h.0)) h.1; left = subst (λ q. IsTreeFrom nodes l (node_at nodes q).left) (sym (h.0)) h.2; right = subst (λ q. IsTreeFrom nodes r (node_at nodes q).right) (sym (h.0)) h.3 })

some_is : (nodes : List Node) (i : ℕ) (x : Item) → item_at nodes i ≡ Some x → IsSome (item_at nodes i)
some_is nodes i x e = rw e refl

pub rebuilt_none : (nodes : List Node) (s t : Tree) (b : Option ℕ) → TreesApart nodes s t None b → IsRebuilt nodes nodes (merged_heap s t) b
rebuilt_none nodes Leaf t b h = record { is_tree = h.other; others = λ p e. refl; count = refl; items = refl }
rebuilt_none nodes (Fork p x l r) t b h = absurd h.one

pub rebuilt_alone : (nodes : List Node) (s t : Tree) (a : Option ℕ) → TreesApart nodes s t a None → IsRebuilt nodes nodes (merged_heap s t) a
rebuilt_alone nodes Leaf Leaf a h = record { is_tree = h.one; others = λ p e. refl; count = refl; items = refl }
rebuilt_alone nodes (Fork p x l r) Leaf a h = record { is_tree = h.one; others = λ p e. refl; count = refl; items = refl }
rebuilt_alone nodes s (Fork p x l r) a h = absurd h.other

-- where both have roots the one that comes first is on top
pub merged_second : (nodes : List Node) (s t : Tree) (i j : ℕ) → TreesApart nodes s t (Some i) (Some j) → ((y x : Item) → item_at nodes j ≡ Some y → item_at nodes i ≡ Some x → precedes y x ≡ true) → merged_heap s t ≡ heap_over t s
merged_second nodes s t i j h before =
    let (x, l, r, o) = opened nodes s i h.one in
    let (y, m, u, n) = opened nodes t j h.other in
    rw (o.is, n.is) (second_over i j x y l r m u (before y x n.fork.item o.fork.item))

pub merged_first : (nodes : List Node) (s t : Tree) (i j : ℕ) → TreesApart nodes s t (Some i) (Some j) → ((y x : Item) → item_at nodes j ≡ Some y → item_at nodes i ≡ Some x → precedes y x ≡ false) → merged_heap s t ≡ heap_over s t
merged_first nodes s t i j h before =
    let (x, l, r, o) = opened nodes s i h.one in
    let (y, m, u, n) = opened nodes t j h.other in
    rw (o.is, n.is) (first_over i j x y l r m u (before y x n.fork.item o.fork.item))

pub apart_turned : (nodes : List Node) (s t : Tree) (a b : Option ℕ) → TreesApart nodes s t a b → TreesApart nodes t s b a
apart_turned nodes s t a b h = record { one = h.other; other = h.one; apart = λ p. omega (arith, h.apart p); ranks = omega (arith, h.ranks) }

-- the result of the merge below the root that comes first
pub rebuilt_second : (nodes new : List Node) (s t : Tree) (i j : ℕ) → ((y x : Item) → item_at nodes j ≡ Some y → item_at nodes i ≡ Some x → precedes y x ≡ true) → ((s t : Tree) → TreesApart nodes s t (Some j) (Some i) → IsRebuilt nodes new (heap_over s t) (Some j)) → TreesApart nodes s t (Some i) (Some j) → IsRebuilt nodes new (merged_heap s t) (Some j)
rebuilt_second nodes new s t i j before merges h = subst (λ u. IsRebuilt nodes new u (Some j)) (sym (merged_second nodes s t i j h before)) (merges t s (apart_turned nodes s t (Some i) (Some j) h))

pub rebuilt_first : (nodes new : List Node) (s t : Tree) (i j : ℕ) → ((y x : Item) → item_at nodes j ≡ Some y → item_at nodes i ≡ Some x → precedes y x ≡ false) → ((s t : Tree) → TreesApart nodes s t (Some i) (Some j) → IsRebuilt nodes new (heap_over s t) (Some i)) → TreesApart nodes s t (Some i) (Some j) → IsRebuilt nodes new (merged_heap s t) (Some i)
rebuilt_first nodes new s t i j before merges h = subst (λ u. IsRebuilt nodes new u (Some i)) (sym (merged_first nodes s t i j h before)) (merges s t h)

module _ (nodes : List Node) (s t : Tree) (i j : ℕ) where
  pub can_compare : TreesApart nodes s t (Some i) (Some j) → CanCompare nodes j i
  can_compare h =
      let (x, l, r, o) = opened nodes s i h.one in
      let (y, m, u, n) = opened nodes t j h.other in
      record { one_there = n.fork.within; other_there = o.fork.within; one = some_is nodes j y n.fork.item; other = some_is nodes i x o.fork.item }

  pub top_there : (b : Option ℕ) → TreesApart nodes s t (Some i) b → i < length nodes
  top_there b h = let (x, l, r, o) = opened nodes s i h.one in o.fork.within

  -- the right heap of the first one and the other heap have no node in common
  pub apart_first : (b : Option ℕ) → TreesApart nodes s t (Some i) b → (x : Item) × (l : Tree) × (r : Tree) × Opened nodes i s x l r × TreesApart nodes r t (node_at nodes i).right b × (times_in i r ≡ 0) × (times_in i t ≡ 0)
  apart_first b h =
      let (x, l, r, o) = opened nodes s i h.one in
      let apart : (p : ℕ) → times_in p (Fork i x l r) + times_in p t ≤ 1 = subst (λ s. (p : ℕ) → times_in p s + times_in p t ≤ 1) o.is h.apart in
      let ranks : leftist_rank (Fork i x l r) + leftist_rank t < 2 ^ 32 = subst (λ s. leftist_rank s + leftist_rank t < 2 ^ 32) o.is h.ranks in
      let here = apart i in
      (x, l, r, o, record { one = o.right; other = h.other; apart = λ p. omega (arith, apart p); ranks = omega (arith, ranks) }, grind (arith, nat_tests), grind (arith, nat_tests))

  -- the same where that right heap has its root at a place
  pub apart_right : (right : ℕ) → Some right ≡ (node_at nodes i).right → TreesApart nodes s t (Some i) (Some j) → (r : Tree) × TreesApart nodes r t (Some right) (Some j) × (leftist_rank s ≡ suc (leftist_rank r))
  apart_right right e h =
      let (x, l, r, o, apart, no_r, no_t) = apart_first (Some j) h in
      (r, subst (λ (a : Option ℕ). TreesApart nodes r t a (Some j)) (sym e) apart, ap leftist_rank o.is)

  -- and where the other heap was hung on its right
  pub apart_hung : (at : List Node) (right : ℕ) → Some right ≡ (node_at nodes i).right → TreesApart nodes s t (Some i) (Some j) → IsHung nodes at i j → (r : Tree) × TreesApart at t r (Some j) (Some right) × (leftist_rank s ≡ suc (leftist_rank r))
  apart_hung at right e h k =
      let (x, l, r, o, apart, no_r, no_t) = apart_first (Some j) h in
      let right_tree : IsTreeFrom nodes r (Some right) = subst (λ (a : Option ℕ). IsTreeFrom nodes r a) (sym e) apart.one in
      (r, record { one = hung_is_tree nodes at i j t (Some j) k no_t h.other; other = hung_is_tree nodes at i j r (Some right) k no_r right_tree; apart = λ p. omega (arith, apart.apart p); ranks = omega (arith, apart.ranks) }, ap leftist_rank o.is)

-- a heap was hung on the right of a root
pub hung_on : (nodes at : List Node) (s t : Tree) (i j : ℕ) → TreesApart nodes s t (Some i) (Some j) → at ≡ set nodes i (hung (node_at nodes i) j) → IsHung nodes at i j
hung_on nodes at s t i j h e = hung_by_set nodes at i j (top_there nodes s t i j (Some j) h) e

-- a heap is on the right of a root, and there it was merged with the one that was there
pub record IsBelow (nodes at mid : List Node) (s t : Tree) (i below : ℕ) : Type 0 where
  pub event : Item
  pub left : Tree
  pub right : Tree
  pub top : Opened nodes i s event left right
  pub hung : IsHung nodes at i below
  pub built : IsRebuilt at mid (merged_heap right t) (Some below)

pub below_none : (nodes at : List Node) (s t : Tree) (i j : ℕ) → None ≡ (node_at nodes i).right → IsHung nodes at i j → TreesApart nodes s t (Some i) (Some j) → IsBelow nodes at at s t i j
below_none nodes at s t i j e k h =
    let (x, l, r, o, apart, no_r, no_t) = apart_first nodes s t i j (Some j) h in
    let none : IsTreeFrom nodes r None = subst (λ (a : Option ℕ). IsTreeFrom nodes r a) (sym e) apart.one in
    record { event = x; left = l; right = r; top = o; hung = k; built = by r none } where
      by : (r : Tree) → IsTreeFrom nodes r None → IsRebuilt at at (merged_heap r t) (Some j)
      by Leaf none =
          let (x, l, r, o, apart, no_r, no_t) = apart_first nodes s t i j (Some j) h in
          record { is_tree = hung_is_tree nodes at i j t (Some j) k no_t h.other; others = λ p z. refl; count = refl; items = refl }
      by (Fork p x l r) none = absurd none

-- the other heap's root comes first
pub below_hung : (nodes at mid : List Node) (s t : Tree) (i j right : ℕ) → Some right ≡ (node_at nodes i).right → IsHung nodes at i j → ((y x : Item) → item_at nodes j ≡ Some y → item_at nodes right ≡ Some x → precedes y x ≡ true) → ((s t : Tree) → TreesApart at s t (Some j) (Some right) → IsRebuilt at mid (heap_over s t) (Some j)) → TreesApart nodes s t (Some i) (Some j) → IsBelow nodes at mid s t i j
below_hung nodes at mid s t i j right e k before merges h =
    let (x, l, r, o, apart, no_r, no_t) = apart_first nodes s t i j (Some j) h in
    let apart_r : TreesApart nodes r t (Some right) (Some j) = subst (λ (a : Option ℕ). TreesApart nodes r t a (Some j)) (sym e) apart in
    let inner : TreesApart at t r (Some j) (Some right) = record { one = hung_is_tree nodes at i j t (Some j) k no_t h.other; other = hung_is_tree nodes at i j r (Some right) k no_r apart_r.one; apart = λ p. omega (arith, apart.apart p); ranks = omega (arith, apart.ranks) } in
    record { event = x; left = l; right = r; top = o; hung = k; built = subst (λ u. IsRebuilt at mid u (Some j)) (sym (merged_second nodes r t right j apart_r before)) (merges t r inner) }

-- the root of the right heap does
pub below_kept : (nodes mid : List Node) (s t : Tree) (i j right : ℕ) → Some right ≡ (node_at nodes i).right → ((y x : Item) → item_at nodes j ≡ Some y → item_at nodes right ≡ Some x → precedes y x ≡ false) → ((s t : Tree) → TreesApart nodes s t (Some right) (Some j) → IsRebuilt nodes mid (heap_over s t) (Some right)) → TreesApart nodes s t (Some i) (Some j) → IsBelow nodes nodes mid s t i right
below_kept nodes mid s t i j right e before merges h =
    let (x, l, r, o, apart, no_r, no_t) = apart_first nodes s t i j (Some j) h in
    let apart_r : TreesApart nodes r t (Some right) (Some j) = subst (λ (a : Option ℕ). TreesApart nodes r t a (Some j)) (sym e) apart in
    record { event = x; left = l; right = r; top = o; hung = hung_already nodes i right o.fork.within (sym e); built = subst (λ u. IsRebuilt nodes mid u (Some right)) (sym (merged_first nodes r t right j apart_r before)) (merges r t apart_r) }

module _ (nodes at mid : List Node) (s t : Tree) (i j below c : ℕ) (h : TreesApart nodes s t (Some i) (Some j)) (k : IsBelow nodes at mid s t i below) where
  pub seat_there : i < length mid
  seat_there = omega (arith, k.built.count, k.hung.count, k.hung.within)

  module _ (rank : c ≡ (node_at mid below).rank) where
    rank_is : c ≡ leftist_rank (merged_heap k.right t)
    rank_is = rank ∙ rank_at-tree mid (merged_heap k.right t) (Some below) k.built.is_tree

    -- a rank one higher fits
    pub seat_fits : c + 1 < 2 ^ 32
    seat_fits =
        let whole : leftist_rank s ≡ suc (leftist_rank k.right) = ap leftist_rank k.top.is in
        omega (arith, rank_is, leftist_rank-merged k.right t, whole, h.ranks)

    pub seated_over : (new : List Node) → new ≡ set mid i (seated (node_at mid i) c) → IsRebuilt nodes new (heap_over s t) (Some i)
    seated_over new e =
        let apart : (p : ℕ) → times_in p (Fork i k.event k.left k.right) + times_in p t ≤ 1 = subst (λ s. (p : ℕ) → times_in p s + times_in p t ≤ 1) k.top.is h.apart in
        let built = seat-rebuilds nodes at mid new i k.event k.left k.right (merged_heap k.right t) below c k.top.fork k.top.left k.hung k.built (λ q. omega (arith, times_in-merged q k.right t, apart q)) rank_is e in
        subst (λ s. IsRebuilt nodes new (heap_over s t) (Some i)) (sym k.top.is) built

  -- the rank that is answered is that of the node
  pub seated_rank : (new : List Node) (result : ℕ) → new ≡ set mid i (seated (node_at mid i) c) → result ≡ (seated (node_at mid i) c).rank → result ≡ (node_at new i).rank
  seated_rank new result e f =
      let is : node_at new i ≡ seated (node_at mid i) c = rw e (get_or-set_same mid i (seated (node_at mid i) c) no_node seat_there) in
      f ∙ ap (λ (n : Node). n.rank) (sym is)

-- the inner merge has less to do
module _ (nodes : List Node) (s t : Tree) (i j right : ℕ) (e : Some right ≡ (node_at nodes i).right) (h : TreesApart nodes s t (Some i) (Some j)) where
  pub less_hung : (at : List Node) (n : ℕ) → IsHung nodes at i j → rank_at nodes (Some i) + rank_at nodes (Some j) ≡ n → rank_at at (Some j) + rank_at at (Some right) < n
  less_hung at n k is =
      let (r, inner, whole) = apart_hung nodes s t i j at right e h k in
      omega (arith, is, whole, rank_at-tree nodes s (Some i) h.one, rank_at-tree nodes t (Some j) h.other, rank_at-tree at t (Some j) inner.one, rank_at-tree at r (Some right) inner.other)

  pub less_kept : (n : ℕ) → rank_at nodes (Some i) + rank_at nodes (Some j) ≡ n → rank_at nodes (Some right) + rank_at nodes (Some j) < n
  less_kept n is =
      let (r, inner, whole) = apart_right nodes s t i j right e h in
      omega (arith, is, whole, rank_at-tree nodes s (Some i) h.one, rank_at-tree nodes r (Some right) inner.one)

  -- and takes fewer comparisons
  pub ticks_hung : (at : List Node) (start mid end : ℕ) → IsHung nodes at i j → mid ≡ start + 1 → ((s t : Tree) → TreesApart at s t (Some j) (Some right) → end + 1 ≤ mid + (leftist_rank s + leftist_rank t)) → end + 1 ≤ start + (leftist_rank s + leftist_rank t)
  ticks_hung at start mid end k one inner =
      let (r, apart, whole) = apart_hung nodes s t i j at right e h k in
      omega (arith, one, whole, inner t r apart)

  pub ticks_kept : (start mid end : ℕ) → mid ≡ start + 1 → ((s t : Tree) → TreesApart nodes s t (Some right) (Some j) → end + 1 ≤ mid + (leftist_rank s + leftist_rank t)) → end + 1 ≤ start + (leftist_rank s + leftist_rank t)
  ticks_kept start mid end one inner =
      let (r, apart, whole) = apart_right nodes s t i j right e h in
      omega (arith, one, whole, inner r t apart)

pub ticks_none : (nodes : List Node) (s t : Tree) (i : ℕ) (b : Option ℕ) (start : ℕ) → TreesApart nodes s t (Some i) b → start + 1 ≤ start + (leftist_rank s + leftist_rank t)
ticks_none nodes s t i b start h =
    let (x, l, r, o) = opened nodes s i h.one in
    let whole : leftist_rank s ≡ suc (leftist_rank r) = ap leftist_rank o.is in
    omega (arith, whole)
