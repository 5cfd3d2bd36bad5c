-- The trees of variables after stores have the values of the state after them.
use Rattle.std.proofs.Common.{◌≡◌, ℕ, ◌<◌, ◌==◌, ℤ, pos, Bool, true, false, cond, List, [], ◌∷◌, map, zip, length, Option, Some, None, Ok, Err, refl, sym, ap, ◌∙◌, subst, arith}
use Rattle.std.specs.Ordering.{int_eq}
use Rattle.std.proofs.lemmas.Int.{ints}
use Rattle.std.proofs.lemmas.Bool.Decides.{nat_tests}
use Rattle.model_core.specs.EventGraph.{EventGraph}
use Rattle.model_core.specs.Run.State.{State, Place, scalar, variable_at, cell_count, cell_at, with_cell}
use Rattle.model_core.specs.Run.Value.{OrFault, in_turn}
use Rattle.model_core.specs.Run.Value as run
use Rattle.model_core.specs.Run.Changes.{kept, store}
use Rattle.tree_laws.specs.SumValues.{Valuation}
use Rattle.tree_laws.specs.SumEnds.{Ground, Known}
use Rattle.tree_laws.specs.Meaning.{Meets, Holds}
use Rattle.tree_laws.specs.Trees.{CaseTree, tree_value, same_tree}
use Rattle.tree_laws.specs.TreeConditions.{equal_tree}
use Rattle.tree_laws.specs.Valued.{Stored, SoFar}
use Rattle.tree_laws.specs.ValuesAgree.{stored_value, Agrees}
use Rattle.tree_laws.proofs.Gives.{Gives, gives_some, then_gives, holds_cond}
use Rattle.tree_laws.proofs.CasesOfTrees.{Has, true-same_tree}
use Rattle.tree_laws.proofs.ConditionTrees.{truth, constant-value, equal-value}
use Rattle.event_laws.specs.ChangesMade.{always, PlaceTree, stores_left, stored_at, stored, all_stored}
use Rattle.event_laws.proofs.PlacesValued.{IndexIs, PlaceIs, PlacesAre}
use Rattle.event_laws.proofs.KeptValues.{kept_at}
use Rattle.event_laws.proofs.CellsWritten.{same_number, other_number, IsLaidOut, other_variable, other_index, written_cell, still_laid_out}

-- ---- stores of a run: first what is kept, then the cells

-- the state with these values at these places, from left to right
abbrev pub put_all : List (Place × ℤ) → List ℤ → State → State
put_all [] ys s = s
put_all (z ∷ zs) [] s = s
put_all ((p, x) ∷ zs) (y ∷ ys) s = put_all zs ys (with_cell s p y)

pub stores_in_two : (g : EventGraph) (zs : List (Place × ℤ)) (s : State) → in_turn (store g) zs s ≡ run.◌>>=◌ (run.each (kept_at g) zs) (λ ys. Ok (put_all zs ys s))
stores_in_two g [] s = refl
stores_in_two g ((p, x) ∷ zs) s = by (kept (variable_at g p.variable) x) (λ y. stores_in_two g zs (with_cell s p y)) where
  after : (y : ℤ) (q : OrFault (List ℤ)) → run.◌>>=◌ q (λ ys. Ok (put_all zs ys (with_cell s p y))) ≡ run.◌>>=◌ (run.◌>>=◌ q (λ ys. Ok (y ∷ ys))) (λ ys. Ok (put_all ((p, x) ∷ zs) ys s))
  after y (Ok ys) = refl
  after y (Err f) = refl

  by : (r : OrFault ℤ) → ((y : ℤ) → in_turn (store g) zs (with_cell s p y) ≡ run.◌>>=◌ (run.each (kept_at g) zs) (λ ys. Ok (put_all zs ys (with_cell s p y))))
      → run.◌>>=◌ (run.◌>>=◌ r (λ y. Ok (with_cell s p y))) (in_turn (store g) zs) ≡ run.◌>>=◌ (run.◌>>=◌ r (λ y. run.◌>>=◌ (run.each (kept_at g) zs) (λ ys. Ok (y ∷ ys)))) (λ ys. Ok (put_all ((p, x) ∷ zs) ys s))
  by (Err f) later = refl
  by (Ok y) later = later y ∙ after y (run.each (kept_at g) zs)

module _ (v : Valuation) (base : Ground) (meets : Meets base v) where
  -- ---- stores that are taken away aren't read elsewhere

  truth_true : (b : Bool) → truth b ≡ pos 1 → b ≡ true
  truth_true true e = refl
  truth_true false e = cc

  same_index : (x a b : ℤ) → int_eq x a ≡ false → int_eq a b ≡ true → int_eq x b ≡ false
  same_index x a b apart same = grind (arith, ints)

  -- elsewhere than at this index, cells are read from what is left as from all
  abbrev LeftReads : ℕ → ℤ → List Stored → List Stored → Type 0
  LeftReads i a ss left = (x : ℤ) → int_eq x a ≡ false → stored_value v i left x ≡ stored_value v i ss x

  left-reads : (k : Known) → Holds v k → (i : ℕ) (a : CaseTree) (ss : List Stored) → Gives (stores_left base k a ss) (LeftReads i (tree_value v a) ss)
  unfolding stores_left stored_value
  left-reads k h i a [] = gives_some _ _ (λ x apart. refl)
  left-reads k h i a (s ∷ older) =
      let Q : List Stored → Type 0 = LeftReads i (tree_value v a) (s ∷ older) in
      then_gives (Has v (truth (int_eq (tree_value v a) (tree_value v s.index)))) Q (equal_tree base k a s.index) _ (equal-value v base meets k h a s.index) (λ c is.
      then_gives (LeftReads i (tree_value v a) older) Q (stores_left base k a older) _ (left-reads k h i a older) (λ left reads.
      gives_some Q _ (holds_cond Q (same_tree c always) left (s ∷ left)
      (λ one x apart.
      let same : int_eq (tree_value v a) (tree_value v s.index) ≡ true = truth_true _ (sym is ∙ ap (tree_value v) (true-same_tree c always one) ∙ constant-value v base meets (pos 1)) in
      reads x apart ∙ sym (ap (λ b. cond b (tree_value v s.value) (stored_value v i older x)) (same_index x (tree_value v a) (tree_value v s.index) apart same)))
      (λ other x apart. ap (λ y. cond (int_eq x (tree_value v s.index)) (tree_value v s.value) y) (reads x apart)))))

  -- ---- one store

  module _ (g : EventGraph) (clk : ℕ) where
    module _ (s : State) (laid : IsLaidOut g s) (so_far : SoFar) (agrees : Agrees v g s clk so_far) (p : Place) (t : CaseTree) (y : ℤ) (is_y : tree_value v t ≡ y) (declared : p.variable < length g.variables) where
      -- what is read of the other variables
      scalar_apart : (i : ℕ) → (p.variable == i) ≡ false → (variable_at g i).size ≡ 0 → tree_value v (so_far.scalar i) ≡ cell_at (with_cell s p y) (scalar i)
      scalar_apart i apart alone = agrees.scalars i alone ∙ sym (other_variable g s laid p y declared i 0 apart)

      cells_apart : (i j : ℕ) → (p.variable == i) ≡ false → j < (variable_at g i).size → stored_value v i (so_far.stores i) (pos j) ≡ cell_at (with_cell s p y) (record { variable = i; index = j })
      cells_apart i j apart below = agrees.cells i j below ∙ sym (other_variable g s laid p y declared i j apart)

      sizes_apart : (i : ℕ) → (p.variable == i) ≡ true → (variable_at g i).size ≡ (variable_at g p.variable).size
      sizes_apart i e = ap (λ k. (variable_at g k).size) (sym (same_number p.variable i e))

      scalar_stored : p.index ≡ 0 → (variable_at g p.variable).size ≡ 0 → Agrees v g (with_cell s p y) clk (record so_far { scalar = λ i. cond (p.variable == i) t (so_far.scalar i) })
      scalar_stored first alone = record {
        clock = agrees.clock;
        scalars = λ i no_array. holds_cond (λ c. tree_value v c ≡ cell_at (with_cell s p y) (scalar i)) (p.variable == i) t (so_far.scalar i)
            (λ e. here i (same_number p.variable i e)) (λ e. scalar_apart i e no_array);
        cells = λ i j below. cells_apart i j (other_number p.variable i (λ e. (let none = ap (λ k. (variable_at g k).size) e in omega (arith, none, alone, below)))) below;
      } where
        place : p ≡ scalar p.variable
        place = ap (λ j. (let q : Place = record { variable = p.variable; index = j } in q)) first

        here : (i : ℕ) → p.variable ≡ i → tree_value v t ≡ cell_at (with_cell s p y) (scalar i)
        here i e = is_y ∙ sym (written_cell g s laid p y declared (let one : p.index < cell_count (variable_at g p.variable) = omega (arith, first) in one)) ∙ ap (cell_at (with_cell s p y)) (place ∙ ap scalar e)

      module _ (k : Known) (h : Holds v k) (a : CaseTree) (at_a : tree_value v a ≡ pos p.index) (below_size : p.index < (variable_at g p.variable).size) where
        cell_stored : (left : List Stored) → LeftReads p.variable (tree_value v a) (so_far.stores p.variable) left
            → Agrees v g (with_cell s p y) clk (record so_far { stores = λ i. cond (p.variable == i) (record { index = a; value = t } ∷ left) (so_far.stores i) })
        unfolding stored_value
        cell_stored left reads = record {
          clock = agrees.clock;
          scalars = λ i alone. scalar_apart i (other_number p.variable i (λ e. (let none = ap (λ k. (variable_at g k).size) e in omega (arith, none, alone, below_size)))) alone;
          cells = λ i j below. holds_cond (λ ss. stored_value v i ss (pos j) ≡ cell_at (with_cell s p y) (record { variable = i; index = j })) (p.variable == i) (record { index = a; value = t } ∷ left) (so_far.stores i)
              (λ e. subst (λ i. stored_value v i (record { index = a; value = t } ∷ left) (pos j) ≡ cell_at (with_cell s p y) (record { variable = i; index = j })) (same_number p.variable i e)
              (own j (subst (λ n. j < n) (sizes_apart i e) below)))
              (λ e. cells_apart i j e below);
        } where
          one_index : (x : ℤ) (j : ℕ) → x ≡ pos p.index → int_eq (pos j) x ≡ (p.index == j)
          one_index x j e = ap (int_eq (pos j)) e ∙ numbers j p.index where
            numbers : (m n : ℕ) → int_eq (pos m) (pos n) ≡ (n == m)
            numbers m n = grind (arith, ints, nat_tests)

          own : (j : ℕ) → j < (variable_at g p.variable).size → cond (int_eq (pos j) (tree_value v a)) (tree_value v t) (stored_value v p.variable left (pos j)) ≡ cell_at (with_cell s p y) (record { variable = p.variable; index = j })
          own j below = by (p.index == j) refl where
            by : (b : Bool) → (p.index == j) ≡ b → cond (int_eq (pos j) (tree_value v a)) (tree_value v t) (stored_value v p.variable left (pos j)) ≡ cell_at (with_cell s p y) (record { variable = p.variable; index = j })
            by true e =
                let same = same_number p.index j e in
                ap (λ b. cond b (tree_value v t) (stored_value v p.variable left (pos j))) (one_index (tree_value v a) j at_a ∙ e)
                ∙ is_y ∙ sym (written_cell g s laid p y declared (let there : p.index < cell_count (variable_at g p.variable) = omega (arith, below_size) in there))
                ∙ ap (λ n. cell_at (with_cell s p y) (record { variable = p.variable; index = n })) same
            by false e =
                let apart = one_index (tree_value v a) j at_a ∙ e in
                ap (λ b. cond b (tree_value v t) (stored_value v p.variable left (pos j))) apart
                ∙ reads (pos j) apart ∙ agrees.cells p.variable j below ∙ sym (other_index g s laid p y declared j e)

      -- a store of one tree
      stored-by : (k : Known) → Holds v k → (q : PlaceTree) → p.variable ≡ q.variable → (index : Option CaseTree) → IndexIs v g p index → Gives (stored_at base k p.variable index t so_far) (Agrees v g (with_cell s p y) clk)
      stored-by k h q same None is = gives_some _ _ (scalar_stored is.0 is.1)
      stored-by k h q same (Some a) is =
          then_gives (LeftReads p.variable (tree_value v a) (so_far.stores p.variable)) (Agrees v g (with_cell s p y) clk) (stores_left base k a (so_far.stores p.variable)) _ (left-reads k h p.variable a (so_far.stores p.variable))
          (λ left reads. gives_some (Agrees v g (with_cell s p y) clk) _ (cell_stored k h a is.0 is.1 left reads))

      pub store-agrees : (k : Known) → Holds v k → (q : PlaceTree) → PlaceIs v g p q → Gives (stored base k q t so_far) (Agrees v g (with_cell s p y) clk)
      unfolding stored
      store-agrees k h q is =
          subst (λ i. Gives (stored_at base k i q.index t so_far) (Agrees v g (with_cell s p y) clk)) is.variable (stored-by k h q is.variable q.index is.index)

    -- ---- several stores

    pub stores-agree : (k : Known) → Holds v k → (ps : List Place) (qs : List PlaceTree) → PlacesAre v g ps qs → (xs : List ℤ) (ts : List CaseTree) → length ts ≡ length (zip ps xs)
        → (s : State) → IsLaidOut g s → (so_far : SoFar) → Agrees v g s clk so_far
        → Gives (all_stored base k qs ts so_far) (Agrees v g (put_all (zip ps xs) (map (tree_value v) ts) s) clk)
    unfolding all_stored
    stores-agree k h [] [] are xs ts long s laid so_far agrees = gives_some _ _ agrees
    stores-agree k h [] (q ∷ qs) are xs ts long s laid so_far agrees = absurd are
    stores-agree k h (p ∷ ps) [] are xs ts long s laid so_far agrees = absurd are
    stores-agree k h (p ∷ ps) (q ∷ qs) are [] [] long s laid so_far agrees = gives_some _ _ agrees
    stores-agree k h (p ∷ ps) (q ∷ qs) are [] (t ∷ ts) long s laid so_far agrees = absurd (omega (arith, long))
    stores-agree k h (p ∷ ps) (q ∷ qs) are (x ∷ xs) [] long s laid so_far agrees = absurd (omega (arith, long))
    stores-agree k h (p ∷ ps) (q ∷ qs) (is, are) (x ∷ xs) (t ∷ ts) long s laid so_far agrees =
        let y = tree_value v t in
        then_gives (Agrees v g (with_cell s p y) clk) (Agrees v g (put_all (zip ps xs) (map (tree_value v) ts) (with_cell s p y)) clk) (stored base k q t so_far) _
        (store-agrees s laid so_far agrees p t y refl is.declared k h q is)
        (λ later agrees_later. stores-agree k h ps qs are xs ts (omega (arith, long)) (with_cell s p y) (still_laid_out g s laid p y is.declared) later agrees_later)
