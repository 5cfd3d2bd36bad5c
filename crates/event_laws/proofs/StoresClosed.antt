-- Stores that were renewed, left out and put in order leave the same cells.
use Rattle.std.proofs.Common.{◌≡◌, ℕ, ℤ, pos, Bool, true, false, cond, List, [], ◌∷◌, Option, Some, refl, sym, ap, ap₂, ◌∙◌, subst}
use Rattle.std.specs.List.{AllByRecursion}
use Rattle.std.specs.Ordering.{int_eq}
use Rattle.std.proofs.lemmas.Bool.Decides.{Decides-int_eq}
use Rattle.tree_laws.specs.SumValues.{Valuation}
use Rattle.tree_laws.specs.Limits.{◌>>=◌}
use Rattle.tree_laws.specs.SumEnds.{Ground, Known}
use Rattle.tree_laws.specs.Meaning.{Meets, Holds}
use Rattle.tree_laws.specs.Trees.{CaseTree, tree_value, same_tree}
use Rattle.tree_laws.specs.TreesJoined.{renewed}
use Rattle.tree_laws.specs.TreeConditions.{is_zero_tree, equal_tree, read_cell}
use Rattle.tree_laws.specs.Valued.{Stored}
use Rattle.tree_laws.specs.ValuesAgree.{stored_value}
use Rattle.tree_laws.proofs.Gives.{Gives, gives_some, then_gives, gives_weaker, gives_cond}
use Rattle.tree_laws.proofs.SameSums.{true-int_eq}
use Rattle.tree_laws.proofs.CasesOfTrees.{Has, true-same_tree}
use Rattle.tree_laws.proofs.JoinedTrees.{one_not_none, renewed-value}
use Rattle.tree_laws.proofs.ConditionTrees.{truth, is_zero-value, equal-value, read_cell-value}
use Rattle.event_laws.specs.EventClosed.{stores_renewed, apart_from, stores_apart, without_own, store_put, stores_in_order, stores_closed}

module _ (v : Valuation) where
  -- another index has another value
  abbrev pub IsApart : Stored → Stored → Type 0
  IsApart s t = tree_value v s.index ≡ tree_value v t.index → ⊥

  abbrev pub Pairwise : List Stored → Type 0
  Pairwise [] = Unit {0}
  Pairwise (s ∷ older) = AllByRecursion (IsApart s) older × Pairwise older

  -- the same cells of an array
  abbrev pub SameCells : ℕ → List Stored → List Stored → Type 0
  SameCells i ss rs = (x : ℤ) → stored_value v i rs x ≡ stored_value v i ss x

  two_conds : (c d : Bool) (x y z : ℤ) → (c ≡ true → d ≡ true → ⊥) → cond c x (cond d y z) ≡ cond d y (cond c x z)
  two_conds true true x y z apart = absurd (apart refl refl)
  two_conds true false x y z apart = refl
  two_conds false true x y z apart = refl
  two_conds false false x y z apart = refl

  change_places : (s t : Stored) (x z : ℤ) → IsApart s t → cond (int_eq x (tree_value v t.index)) (tree_value v t.value) (cond (int_eq x (tree_value v s.index)) (tree_value v s.value) z) ≡ cond (int_eq x (tree_value v s.index)) (tree_value v s.value) (cond (int_eq x (tree_value v t.index)) (tree_value v t.value) z)
  change_places s t x z apart = two_conds (int_eq x (tree_value v t.index)) (int_eq x (tree_value v s.index)) (tree_value v t.value) (tree_value v s.value) z
      (λ at_t at_s. apart (sym (true-int_eq x (tree_value v s.index) at_s) ∙ true-int_eq x (tree_value v t.index) at_t))

  -- a cell at which nothing was stored
  not_stored : (i : ℕ) (s : Stored) (older : List Stored) → AllByRecursion (IsApart s) older → stored_value v i older (tree_value v s.index) ≡ v.cell i (tree_value v s.index)
  unfolding stored_value
  not_stored i s [] all = refl
  not_stored i s (t ∷ older) (apart, all) = by (int_eq (tree_value v s.index) (tree_value v t.index)) refl (not_stored i s older all) where
    by : (b : Bool) → int_eq (tree_value v s.index) (tree_value v t.index) ≡ b → stored_value v i older (tree_value v s.index) ≡ v.cell i (tree_value v s.index) → cond b (tree_value v t.value) (stored_value v i older (tree_value v s.index)) ≡ v.cell i (tree_value v s.index)
    by true e rest = absurd (apart (true-int_eq _ _ e))
    by false e rest = rest

  module _ (base : Ground) (meets : Meets base v) (k : Known) (h : Holds v k) where
    stores_renewed-same : (i : ℕ) (ss : List Stored) → Gives (stores_renewed base k ss) (SameCells i ss)
    unfolding stores_renewed stored_value
    stores_renewed-same i [] = gives_some _ _ (λ x. refl)
    stores_renewed-same i (s ∷ older) =
        let Q = SameCells i (s ∷ older) in
        then_gives (Has v (tree_value v s.index)) Q (renewed base k s.index) _ (renewed-value v base meets k h s.index)
        (λ a same_a. then_gives (Has v (tree_value v s.value)) Q (renewed base k s.value) _ (renewed-value v base meets k h s.value)
        (λ t same_t. then_gives (SameCells i older) Q (stores_renewed base k older) _ (stores_renewed-same i older)
        (λ rest same. gives_some Q _ (λ x. ap₂ (λ j y. cond (int_eq x j) y (stored_value v i rest x)) same_a same_t ∙ ap (λ z. cond (int_eq x (tree_value v s.index)) (tree_value v s.value) z) (same x)))))

    unequal : (x y : ℤ) → truth (int_eq x y) ≡ pos 0 → x ≡ y → ⊥
    unequal x y none same = one_not_none (truth (int_eq x y)) (ap truth ((Decides-int_eq x y).1 same)) none

    apart_from-is : (s : Stored) (ts : List Stored) → Gives (apart_from base k s ts) (λ m. m ≡ true → AllByRecursion (IsApart s) ts)
    unfolding apart_from
    apart_from-is s [] = gives_some _ _ (λ e. tt)
    apart_from-is s (t ∷ ts) =
        let Q : Bool → Type 0 = λ m. m ≡ true → AllByRecursion (IsApart s) (t ∷ ts) in
        then_gives (Has v (truth (int_eq (tree_value v s.index) (tree_value v t.index)))) Q (equal_tree base k s.index t.index) _ (equal-value v base meets k h s.index t.index)
        (λ c is. gives_cond Q (is_zero_tree c) _ _
        (λ none. gives_weaker Q _ (apart_from-is s ts) (λ m others e. (unequal _ _ (sym is ∙ is_zero-value v base meets c none), others e)))
        (λ some. gives_some Q false (λ e. cc)))

    stores_apart-are : (ss : List Stored) → Gives (stores_apart base k ss) (λ m. m ≡ true → Pairwise ss)
    unfolding stores_apart
    stores_apart-are [] = gives_some _ _ (λ e. tt)
    stores_apart-are (s ∷ older) =
        let Q : Bool → Type 0 = λ m. m ≡ true → Pairwise (s ∷ older) in
        then_gives (λ m. m ≡ true → AllByRecursion (IsApart s) older) Q (apart_from base k s older) _ (apart_from-is s older)
        (λ m apart. gives_cond Q m _ _
        (λ e. gives_weaker Q _ (stores_apart-are older) (λ m others f. (apart e, others f)))
        (λ e. gives_some Q false (λ f. cc)))

    -- some of the stores, with the same cells
    record ArePart (i : ℕ) (ss rs : List Stored) : Type 0 where
      pub same : SameCells i ss rs
      pub part : (t : Stored) → AllByRecursion (IsApart t) ss → AllByRecursion (IsApart t) rs
      pub pairwise : Pairwise rs

    without_own-part : (i : ℕ) (ss : List Stored) → Pairwise ss → Gives (without_own base k i ss) (ArePart i ss)
    unfolding without_own stored_value
    without_own-part i [] pairs = gives_some _ _ (record { same = λ x. refl; part = λ t all. tt; pairwise = tt })
    without_own-part i (s ∷ older) (apart, pairs) =
        let Q = ArePart i (s ∷ older) in
        then_gives (Has v (v.cell i (tree_value v s.index))) Q (read_cell base i k s.index) _ (read_cell-value v base meets i k h s.index)
        (λ t own. then_gives (ArePart i older) Q (without_own base k i older) _ (without_own-part i older pairs)
        (λ rest is. gives_some Q _ (by t own rest is (same_tree s.value t) refl))) where
          left_out : (t : CaseTree) → tree_value v t ≡ v.cell i (tree_value v s.index) → s.value ≡ t → (x : ℤ) → stored_value v i older x ≡ stored_value v i (s ∷ older) x
          left_out t own same x = go (int_eq x (tree_value v s.index)) refl where
            go : (b : Bool) → int_eq x (tree_value v s.index) ≡ b → stored_value v i older x ≡ cond b (tree_value v s.value) (stored_value v i older x)
            go true e = let there = true-int_eq x (tree_value v s.index) e in ap (stored_value v i older) there ∙ not_stored i s older apart ∙ sym own ∙ ap (tree_value v) (sym same)
            go false e = refl

          stays : (rest : List Stored) → ArePart i older rest → (x : ℤ) → stored_value v i (s ∷ rest) x ≡ stored_value v i (s ∷ older) x
          stays rest is x = ap (λ z. cond (int_eq x (tree_value v s.index)) (tree_value v s.value) z) (is.same x)

          by : (t : CaseTree) → Has v (v.cell i (tree_value v s.index)) t → (rest : List Stored) → ArePart i older rest → (b : Bool) → same_tree s.value t ≡ b → ArePart i (s ∷ older) (cond b rest (s ∷ rest))
          by t own rest is true e = record { same = λ x. is.same x ∙ left_out t own (true-same_tree s.value t e) x; part = λ t all. is.part t all.1; pairwise = is.pairwise }
          by t own rest is false e = record { same = stays rest is; part = λ t all. (all.0, is.part t all.1); pairwise = (is.part s apart, is.pairwise) }

    module _ (less : CaseTree → CaseTree → Bool) where
      store_put-all : (t s : Stored) (ss : List Stored) → IsApart t s → AllByRecursion (IsApart t) ss → AllByRecursion (IsApart t) (store_put base k less s ss)
      unfolding store_put
      store_put-all t s [] one all = (one, tt)
      store_put-all t s (u ∷ us) one (first, all) = by (less s.index u.index) (store_put-all t s us one all) where
        by : (b : Bool) → AllByRecursion (IsApart t) (store_put base k less s us) → AllByRecursion (IsApart t) (cond b (u ∷ store_put base k less s us) (s ∷ u ∷ us))
        by true rest = (first, rest)
        by false rest = (one, (first, all))

      store_put-same : (i : ℕ) (s : Stored) (ss : List Stored) → AllByRecursion (IsApart s) ss → SameCells i (s ∷ ss) (store_put base k less s ss)
      unfolding store_put stored_value
      store_put-same i s [] all x = refl
      store_put-same i s (t ∷ ts) (apart, all) x = by (less s.index t.index) (store_put-same i s ts all x) where
        by : (b : Bool) → stored_value v i (store_put base k less s ts) x ≡ stored_value v i (s ∷ ts) x → stored_value v i (cond b (t ∷ store_put base k less s ts) (s ∷ t ∷ ts)) x ≡ stored_value v i (s ∷ t ∷ ts) x
        by true rest = ap (λ z. cond (int_eq x (tree_value v t.index)) (tree_value v t.value) z) rest ∙ change_places s t x (stored_value v i ts x) apart
        by false rest = refl

      in_order-all : (t : Stored) (ss : List Stored) → AllByRecursion (IsApart t) ss → AllByRecursion (IsApart t) (stores_in_order base k less ss)
      unfolding stores_in_order
      in_order-all t [] all = tt
      in_order-all t (s ∷ ss) (one, all) = store_put-all t s (stores_in_order base k less ss) one (in_order-all t ss all)

      in_order-same : (i : ℕ) (ss : List Stored) → Pairwise ss → SameCells i ss (stores_in_order base k less ss)
      unfolding stores_in_order stored_value
      in_order-same i [] pairs x = refl
      in_order-same i (s ∷ ss) (apart, pairs) x =
          store_put-same i s (stores_in_order base k less ss) (in_order-all s ss apart) x
          ∙ ap (λ z. cond (int_eq x (tree_value v s.index)) (tree_value v s.value) z) (in_order-same i ss pairs x)

      pub stores_closed-same : (i : ℕ) (ss : List Stored) → Gives (stores_closed base k less i ss) (SameCells i ss)
      stores_closed-same i ss =
          let Q = SameCells i ss in
          then_gives Q Q (stores_renewed base k ss) _ (stores_renewed-same i ss)
          (λ rs same. then_gives (λ m. m ≡ true → Pairwise rs) Q (stores_apart base k rs) _ (stores_apart-are rs)
          (λ m pairs. gives_cond Q m _ _
          (λ e. then_gives (ArePart i rs) Q (without_own base k i rs) _ (without_own-part i rs (pairs e))
          (λ ls is. gives_some Q _ (λ x. in_order-same i ls is.pairwise x ∙ is.same x ∙ same x)))
          (λ e. gives_some Q rs same)))
