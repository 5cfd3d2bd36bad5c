-- Nodes that were set aside are merged back into their heap, one after another.
use Rattle.std.proofs.Common.{◌≡◌, ℕ, ◌+◌, ◌^◌, ◌<◌, ◌≤◌, ◌≢◌, ◌⊎◌, inl, inr, cond, ◌==◌, List, ◌∷◌, length, set, Option, Some, None, refl, ◌∙◌, ap, subst, arith, get_or-set_same, get_or-set_other}
use Rattle.std.proofs.lemmas.Bool.Decides.{nat_tests}
use Rattle.std.proofs.lemmas.Bool.{cases_eq}
use Rattle.std.proofs.lemmas.List.{length-set}
use Rattle.event_heap.specs.declared.node.Item.{Item}
use Rattle.event_heap.specs.declared.node.Node.{Node}
use Rattle.event_heap.specs.Inner.Tree.{Tree, Leaf, Fork, times_in, merged_heap}
use Rattle.event_heap.specs.Inner.NodeTrees.{no_node, node_at, item_at, TreesApart, IsRebuilt}
use Rattle.event_heap.specs.Inner.Forest.{occurs}
use Rattle.event_heap.specs.Inner.Aside.{Linked, IsSplit}
use Rattle.event_heap.proofs.TreeLaws.{times_in-merged, heap-merged}
use Rattle.event_heap.proofs.NodeTreeLaws.{tree-kept, items-set}
use Rattle.event_heap.proofs.ForestLaws.{node-there}
use Rattle.event_heap.proofs.Sizes.{leftist_rank-small}
use Rattle.event_heap.proofs.Weights.{reach, reach-length}
use Rattle.event_heap.proofs.Searching.{linked-kept}

-- a node as a heap of its own
abbrev pub lone : Node → Node
lone n = record n { left = None; right = None; rank = 1; left_rank = 0 }

module _ (start now : List Node) (whole : ℕ → ℕ) (s : Tree) (p : ℕ) (ps : List ℕ) (root next : Option ℕ) (x : Item) (q : IsSplit start now whole whole s (p ∷ ps) root next) (once : (i : ℕ) → whole i ≤ 1) (event : item_at now p ≡ Some x) (small : length now < 2 ^ 64) (alone : List Node) (e : alone ≡ set now p (lone (node_at now p))) where
  here_once : (times_in p s ≡ 0) × (occurs p ps ≡ 0)
  here_once = let a = q.parts p in let o = once p in (grind (arith, nat_tests), grind (arith, nat_tests))

  there : p < length now
  there = node-there now p x event

  at_p : node_at alone p ≡ lone (node_at now p)
  at_p = rw e (get_or-set_same now p (lone (node_at now p)) no_node there)

  elsewhere : (i : ℕ) → i ≢ p → node_at alone i ≡ node_at now i
  elsewhere i ne = rw e (get_or-set_other now p i (lone (node_at now p)) no_node ne)

  same_length : length alone ≡ length now
  same_length = rw e (length-set now p (lone (node_at now p)))

  pub back-apart : TreesApart alone s (Fork p x Leaf Leaf) root (Some p)
  back-apart =
      let bound = leftist_rank-small now s root q.is_tree q.heap_is (λ i. let a = q.parts i in let o = once i in omega arith) small in
      record {
        one = tree-kept now alone s root same_length (λ i m. elsewhere i (λ h. absurd (omega (arith, subst (λ i. 0 < times_in i s) h m, here_once.0)))) q.is_tree;
        other = (refl, record { within = omega (arith, there, same_length); item = ap (λ n. n.item) at_p ∙ event; rank_is = ap (λ n. n.rank) at_p; left_rank_is = ap (λ n. n.left_rank) at_p }, rw at_p tt, rw at_p tt);
        apart = λ i. let a = q.parts i in let o = once i in grind (arith, nat_tests);
        ranks = omega arith;
      }

  module _ (new : List Node) (after : Option ℕ) (b : IsRebuilt alone new (merged_heap s (Fork p x Leaf Leaf)) after) where
    grown : (i : ℕ) → times_in i (merged_heap s (Fork p x Leaf Leaf)) ≡ times_in i s + cond (i == p) 1 0
    grown i = let m = times_in-merged i s (Fork p x Leaf Leaf) in omega arith

    far : (i : ℕ) → i ≢ p → times_in i s ≡ 0 → node_at new i ≡ node_at now i
    far i ne z = b.others i (let g = grown i in grind (arith, nat_tests)) ∙ elsewhere i ne

    pub one-back : Linked now ps (node_at now p).left → IsSplit start new whole whole (merged_heap s (Fork p x Leaf Leaf)) ps after (node_at now p).left
    one-back linked = record {
      is_tree = b.is_tree;
      heap_is = heap-merged s (Fork p x Leaf Leaf) q.heap_is (tt, tt, omega arith, tt, tt);
      linked = linked-kept now new ps (node_at now p).left (b.count ∙ same_length)
          (λ i m. far i (λ h. absurd (omega (arith, subst (λ i. 0 < occurs i ps) h m, here_once.1))) (let a = q.parts i in let o = once i in omega arith)) linked;
      parts = λ i. let a = q.parts i in let g = grown i in omega arith;
      few = let f = q.few in let c = b.count in let l = same_length in omega arith;
      others = λ i z. apart_from i z (cases_eq i p) ∙ q.others i z;
      count = b.count ∙ same_length ∙ q.count;
      items = b.items ∙ rw e (items-set now p (lone (node_at now p)) there refl) ∙ q.items;
    } where
      apart_from : (i : ℕ) → whole i ≡ 0 → (i ≡ p) ⊎ (i ≢ p) → node_at new i ≡ node_at now i
      apart_from i z (inl h) = let a = q.parts i in absurd (grind (arith, nat_tests))
      apart_from i z (inr ne) = let a = q.parts i in far i ne (omega arith)

    pub less-reach : Linked now ps (node_at now p).left → reach new (length new) (node_at now p).left < reach now (length now) (Some p)
    less-reach linked =
        let after_it = (one-back linked).linked in
        let f = q.few in
        let c = b.count in
        let l = same_length in
        let before = reach-length now (length now) (p ∷ ps) (Some p) (refl, there, linked) f in
        let later = reach-length new (length new) ps (node_at now p).left after_it (omega arith) in
        omega arith
