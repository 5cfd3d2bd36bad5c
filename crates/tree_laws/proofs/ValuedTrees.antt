-- The tree of an expression has its value where the checks pass, and else the first check that fails is its fault.
use Rattle.std.proofs.Common.{◌≡◌, ℕ, nat_lt, ℤ, pos, negsuc, ◌-ℤ◌, neg_ℤ, int_le, int_div, int_rem, Bool, true, false, not, cond, List, [], ◌∷◌, Option, Some, Ok, Err, ◌⊎◌, inl, inr, refl, ap, sym, ◌∙◌, subst, arith}
use Rattle.std.specs.Ordering.{int_eq}
use Rattle.std.proofs.lemmas.Int.{ints}
use Rattle.std.proofs.lemmas.Bool.{ltb-true}
use Rattle.sig_base.specs.declared.fault.FaultKind.{FaultKind}
use Rattle.sig_base.specs.declared.fault.FaultKind.TheVariants as faults
use Rattle.model_core.specs.EventGraph.{EventGraph, Expression, Number, Truth, Clock, Scalar, Cell, Negative, Not, Binary, If, Operator, Add, Subtract, Multiply, Divide, Remainder, Least, Greatest, Equal, NotEqual, Below, AtMost, Above, AtLeast, And, Or}
use Rattle.model_core.specs.Run.State.{State, variable_at, cell_at, within}
use Rattle.model_core.specs.Run.Value.{OrFault, exact, number_of, is_one, unless_zero, decided, operate, indexed, value_of}
use Rattle.model_core.specs.Run.Value as run
use Rattle.tree_laws.specs.SumValues.{Valuation, atom_value}
use Rattle.tree_laws.specs.LinearSums.{ClockAtom, Mul, Div, Rem}
use Rattle.tree_laws.specs.Limits.{◌>>=◌}
use Rattle.tree_laws.specs.SumEnds.{Ground, Known}
use Rattle.tree_laws.specs.Meaning.{Meets, Holds}
use Rattle.tree_laws.specs.Trees.{CaseTree, tree_value}
use Rattle.tree_laws.specs.TreesJoined.{choose, tree_difference}
use Rattle.tree_laws.specs.TreeConditions.{number_tree, equal_tree, between_tree, opposite_tree, read_cell}
use Rattle.tree_laws.specs.Valued.{Noted, Valued, Stored, SoFar, note, plain, divisor_checked, at_most_other, picked, turned_about, operator, guard_and, guard_not, guard_beside, after_stores, valued}
use Rattle.tree_laws.specs.ValuesAgree.{stored_value, Agrees, AsksTruth, IsTruthValue, TruthsWhereAsked}
use Rattle.tree_laws.specs.ChecksHold.{Fine, FailedIn, Outcome, FineAfter, FailedAfter}
use Rattle.tree_laws.proofs.Gives.{Gives, gives_some, then_gives, gives_weaker}
use Rattle.tree_laws.proofs.CasesOfTrees.{Has}
use Rattle.tree_laws.proofs.JoinedTrees.{Chosen, choose-value, tree_sum-value, tree_difference-value, tree_operation-value}
use Rattle.tree_laws.proofs.ConditionTrees.{truth, constant-value, at_most-value, less-value, equal-value, between-value, opposite-value, read_tree-value, read_cell-value}
use Rattle.tree_laws.proofs.NotedChecks.{skip, note-failed, note-fine, note-fails, plain-failed, plain-fine, plain-value, checked-failed, checked-fine, checked-value}

module _ (v : Valuation) (base : Ground) (meets : Meets base v) where
  divides-failed : (f : FaultKind) (guard b : CaseTree) (n : Noted) → FailedIn v f n → Gives (divisor_checked base guard b n) (FailedIn v f)
  divides-failed f guard b n failed = skip (FailedIn v f) (equal_tree base n.known b (number_tree (pos 0))) _ (λ e. skip (FailedIn v f) (opposite_tree base n.known e) _ (λ c. note-failed v base meets f faults.DivisionByZero guard c n failed))

  divides-fine : (guard b : CaseTree) (n : Noted) → Fine v n → tree_value v guard ≡ pos 0 → Gives (divisor_checked base guard b n) (Fine v)
  divides-fine guard b n fine zero = skip (Fine v) (equal_tree base n.known b (number_tree (pos 0))) _ (λ e. skip (Fine v) (opposite_tree base n.known e) _ (λ c. note-fine v base meets faults.DivisionByZero guard c n fine (inl zero)))

  -- the condition on a divisor
  module _ (guard b : CaseTree) (n : Noted) (fine : Fine v n) (Q : Noted → Type 0) (next : (c : CaseTree) → tree_value v c ≡ pos 1 -ℤ truth (int_eq (tree_value v b) (pos 0)) → Gives (note base faults.DivisionByZero guard c n) Q) where
    divides-by : Gives (divisor_checked base guard b n) Q
    divides-by =
        let zero = constant-value v base meets (pos 0) in
        then_gives (Has v (truth (int_eq (tree_value v b) (tree_value v (number_tree (pos 0)))))) Q (equal_tree base n.known b (number_tree (pos 0))) _ (equal-value v base meets n.known fine.holds b (number_tree (pos 0)))
        (λ e is. then_gives (Has v (pos 1 -ℤ tree_value v e)) Q (opposite_tree base n.known e) _ (opposite-value v base meets n.known fine.holds e)
        (λ c not_e. next c (not_e ∙ ap (λ x. pos 1 -ℤ x) is ∙ ap (λ x. pos 1 -ℤ truth (int_eq (tree_value v b) x)) zero)))

  divides-well : (guard b : CaseTree) (n : Noted) → Fine v n → int_eq (tree_value v b) (pos 0) ≡ false → Gives (divisor_checked base guard b n) (Fine v)
  divides-well guard b n fine e = divides-by guard b n fine (Fine v) (λ c is. note-fine v base meets faults.DivisionByZero guard c n fine (inr (is ∙ ap (λ t. pos 1 -ℤ truth t) e)))

  divides-badly : (guard b : CaseTree) (n : Noted) → Fine v n → tree_value v guard ≡ pos 1 → int_eq (tree_value v b) (pos 0) ≡ true → Gives (divisor_checked base guard b n) (FailedIn v faults.DivisionByZero)
  divides-badly guard b n fine one e = divides-by guard b n fine (FailedIn v faults.DivisionByZero) (λ c is. note-fails v base meets faults.DivisionByZero guard c n fine one (is ∙ ap (λ t. pos 1 -ℤ truth t) e))

  -- ---- operators

  pub operator-failed : (f : FaultKind) (op : Operator) (guard a b : CaseTree) (n : Noted) → FailedIn v f n → Gives (operator base op guard a b n) (FailedAfter v f)
  operator-failed f Add guard a b n failed = checked-failed v base meets f guard n _ failed
  operator-failed f Subtract guard a b n failed = checked-failed v base meets f guard n _ failed
  operator-failed f Multiply guard a b n failed = checked-failed v base meets f guard n _ failed
  operator-failed f Divide guard a b n failed = then_gives (FailedIn v f) (FailedAfter v f) (divisor_checked base guard b n) _ (divides-failed f guard b n failed) (λ m g. checked-failed v base meets f guard m _ g)
  operator-failed f Remainder guard a b n failed = then_gives (FailedIn v f) (FailedAfter v f) (divisor_checked base guard b n) _ (divides-failed f guard b n failed) (λ m g. plain-failed v base meets f m _ g)
  operator-failed f Least guard a b n failed = plain-failed v base meets f n _ failed
  operator-failed f Greatest guard a b n failed = plain-failed v base meets f n _ failed
  operator-failed f Equal guard a b n failed = plain-failed v base meets f n _ failed
  operator-failed f NotEqual guard a b n failed = plain-failed v base meets f n _ failed
  operator-failed f Below guard a b n failed = plain-failed v base meets f n _ failed
  operator-failed f AtMost guard a b n failed = plain-failed v base meets f n _ failed
  operator-failed f Above guard a b n failed = plain-failed v base meets f n _ failed
  operator-failed f AtLeast guard a b n failed = plain-failed v base meets f n _ failed
  operator-failed f And guard a b n failed = plain-failed v base meets f n _ failed
  operator-failed f Or guard a b n failed = plain-failed v base meets f n _ failed

  operator-fine : (op : Operator) (guard a b : CaseTree) (n : Noted) → Fine v n → tree_value v guard ≡ pos 0 → Gives (operator base op guard a b n) (FineAfter v)
  operator-fine Add guard a b n fine zero = checked-fine v base meets guard n _ fine zero
  operator-fine Subtract guard a b n fine zero = checked-fine v base meets guard n _ fine zero
  operator-fine Multiply guard a b n fine zero = checked-fine v base meets guard n _ fine zero
  operator-fine Divide guard a b n fine zero = then_gives (Fine v) (FineAfter v) (divisor_checked base guard b n) _ (divides-fine guard b n fine zero) (λ m g. checked-fine v base meets guard m _ g zero)
  operator-fine Remainder guard a b n fine zero = then_gives (Fine v) (FineAfter v) (divisor_checked base guard b n) _ (divides-fine guard b n fine zero) (λ m g. plain-fine v base meets m _ g)
  operator-fine Least guard a b n fine zero = plain-fine v base meets n _ fine
  operator-fine Greatest guard a b n fine zero = plain-fine v base meets n _ fine
  operator-fine Equal guard a b n fine zero = plain-fine v base meets n _ fine
  operator-fine NotEqual guard a b n fine zero = plain-fine v base meets n _ fine
  operator-fine Below guard a b n fine zero = plain-fine v base meets n _ fine
  operator-fine AtMost guard a b n fine zero = plain-fine v base meets n _ fine
  operator-fine Above guard a b n fine zero = plain-fine v base meets n _ fine
  operator-fine AtLeast guard a b n fine zero = plain-fine v base meets n _ fine
  operator-fine And guard a b n fine zero = plain-fine v base meets n _ fine
  operator-fine Or guard a b n fine zero = plain-fine v base meets n _ fine

  -- at trees of these values
  module _ (guard a b : CaseTree) (n : Noted) (fine : Fine v n) (one : tree_value v guard ≡ pos 1) where
    left : ℤ
    left = tree_value v a

    at_most_other-value : (a b : CaseTree) → Gives (at_most_other base n.known a b) (Has v (truth (int_le (tree_value v a) (tree_value v b))))
    at_most_other-value a b =
        let Q = Has v (truth (int_le (tree_value v a) (tree_value v b))) in
        then_gives (Has v (tree_value v a -ℤ tree_value v b)) Q (tree_difference base n.known a b) _ (tree_difference-value v base meets n.known fine.holds a b)
        (λ d e. gives_weaker Q _ (at_most-value v base meets (pos 0) n.known fine.holds d) (λ t f. f ∙ ap (λ x. truth (int_le x (pos 0))) e ∙ ap truth (no_more (tree_value v a) (tree_value v b)))) where
          no_more : (x y : ℤ) → int_le (x -ℤ y) (pos 0) ≡ int_le x y
          no_more x y = grind (arith, ints)

    picked-value : (o : Option CaseTree) (t : Bool) (p q : CaseTree) → Gives o (Has v (truth t)) → Gives (picked base n.known o p q) (Has v (cond t (tree_value v p) (tree_value v q)))
    picked-value o t p q is =
        let Q = Has v (cond t (tree_value v p) (tree_value v q)) in
        then_gives (Has v (truth t)) Q o _ is
        (λ c e. gives_weaker Q _ (choose-value v base meets n.known fine.holds c p q) (λ r is. by t r e is)) where
          by : (t : Bool) (r : CaseTree) {c : ℤ} → c ≡ truth t → Chosen c (tree_value v p) (tree_value v q) (tree_value v r) → tree_value v r ≡ cond t (tree_value v p) (tree_value v q)
          by true r e is = is.one e
          by false r e is = is.none e

    turned_about-value : (o : Option CaseTree) (t : Bool) → Gives o (Has v (truth t)) → Gives (turned_about base n.known o) (Has v (truth (not t)))
    turned_about-value o t is =
        then_gives (Has v (truth t)) (Has v (truth (not t))) o _ is
        (λ c e. gives_weaker (Has v (truth (not t))) _ (opposite-value v base meets n.known fine.holds c) (λ r f. f ∙ ap (λ x. pos 1 -ℤ x) e ∙ by t)) where
          by : (t : Bool) → pos 1 -ℤ truth t ≡ truth (not t)
          by true = refl
          by false = refl

    -- a quotient or a rest, by whether the divisor is 0
    divided-value : (t : Bool) → int_eq (tree_value v b) (pos 0) ≡ t → Gives (operator base Divide guard a b n) (Outcome v (cond t (Err faults.DivisionByZero) (exact (int_div (tree_value v a) (tree_value v b)))))
    unfolding Outcome FailedAfter
    divided-value true e =
        then_gives (FailedIn v faults.DivisionByZero) (Outcome v (Err faults.DivisionByZero)) (divisor_checked base guard b n) _ (divides-badly guard b n fine one e) (λ m g. checked-failed v base meets faults.DivisionByZero guard m _ g)
    divided-value false e =
        let x = int_div (tree_value v a) (tree_value v b) in
        then_gives (Fine v) (Outcome v (exact x)) (divisor_checked base guard b n) _ (divides-well guard b n fine e)
        (λ m g. checked-value v base meets guard m _ x g one (gives_weaker (Has v x) _ (tree_operation-value v base meets m.known g.holds Div a b) (λ t f. f ∙ ap (λ z. cond z (pos 0) x) e)))

    rest-value : (t : Bool) → int_eq (tree_value v b) (pos 0) ≡ t → Gives (operator base Remainder guard a b n) (Outcome v (cond t (Err faults.DivisionByZero) (Ok (int_rem (tree_value v a) (tree_value v b)))))
    unfolding Outcome FailedAfter
    rest-value true e =
        then_gives (FailedIn v faults.DivisionByZero) (Outcome v (Err faults.DivisionByZero)) (divisor_checked base guard b n) _ (divides-badly guard b n fine one e) (λ m g. plain-failed v base meets faults.DivisionByZero m _ g)
    rest-value false e =
        let x = int_rem (tree_value v a) (tree_value v b) in
        then_gives (Fine v) (Outcome v (Ok x)) (divisor_checked base guard b n) _ (divides-well guard b n fine e)
        (λ m g. plain-value v base meets m _ x g (gives_weaker (Has v x) _ (tree_operation-value v base meets m.known g.holds Rem a b) (λ t f. f ∙ ap (λ z. cond z (pos 0) x) e)))

    -- each operator that evaluates both operands
    operator-value : (op : Operator) → ((x : ℤ) → decided op x ≡ false) → Gives (operator base op guard a b n) (Outcome v (operate op (tree_value v a) (tree_value v b)))
    operator-value Add both = checked-value v base meets guard n _ _ fine one (tree_sum-value v base meets n.known fine.holds a b)
    operator-value Subtract both = checked-value v base meets guard n _ _ fine one (tree_difference-value v base meets n.known fine.holds a b)
    operator-value Multiply both = checked-value v base meets guard n _ _ fine one (tree_operation-value v base meets n.known fine.holds Mul a b)
    operator-value Divide both = divided-value (int_eq (tree_value v b) (pos 0)) refl
    operator-value Remainder both = rest-value (int_eq (tree_value v b) (pos 0)) refl
    operator-value Least both = plain-value v base meets n _ _ fine (picked-value _ (int_le (tree_value v a) (tree_value v b)) a b (at_most_other-value a b))
    operator-value Greatest both = plain-value v base meets n _ _ fine (picked-value _ (int_le (tree_value v a) (tree_value v b)) b a (at_most_other-value a b))
    operator-value Equal both = plain-value v base meets n _ _ fine (equal-value v base meets n.known fine.holds a b)
    operator-value NotEqual both = plain-value v base meets n _ _ fine (turned_about-value _ (int_eq (tree_value v a) (tree_value v b)) (equal-value v base meets n.known fine.holds a b))
    operator-value Below both = plain-value v base meets n _ _ fine (less-value v base meets n.known fine.holds a b)
    operator-value AtMost both = plain-value v base meets n _ _ fine (at_most_other-value a b)
    operator-value Above both = plain-value v base meets n _ _ fine (less-value v base meets n.known fine.holds b a)
    operator-value AtLeast both = plain-value v base meets n _ _ fine (at_most_other-value b a)
    operator-value And both = absurd (decides (both (pos 0))) where
      decides : true ≡ false → ⊥
      decides e = cc
    operator-value Or both = absurd (decides (both (pos 1))) where
      decides : true ≡ false → ⊥
      decides e = cc

  -- ---- parts that count under a guard

  guard_and-value : (k : Known) → Holds v k → (guard c : CaseTree) → Gives (guard_and base k guard c) (λ r. (tree_value v guard ≡ pos 0 → tree_value v r ≡ pos 0) × (tree_value v guard ≡ pos 1 → tree_value v r ≡ tree_value v c))
  guard_and-value k h guard c =
      gives_weaker (λ r. (tree_value v guard ≡ pos 0 → tree_value v r ≡ pos 0) × (tree_value v guard ≡ pos 1 → tree_value v r ≡ tree_value v c)) _ (choose-value v base meets k h guard c (number_tree (pos 0)))
      (λ r is. (λ z. is.none z ∙ constant-value v base meets (pos 0), λ o. is.one o))

  guard_not-value : (k : Known) → Holds v k → (guard c : CaseTree) → Gives (guard_not base k guard c) (λ r. (tree_value v guard ≡ pos 0 → tree_value v r ≡ pos 0) × (tree_value v guard ≡ pos 1 → tree_value v r ≡ pos 1 -ℤ tree_value v c))
  guard_not-value k h guard c =
      let Q : CaseTree → Type 0 = λ r. (tree_value v guard ≡ pos 0 → tree_value v r ≡ pos 0) × (tree_value v guard ≡ pos 1 → tree_value v r ≡ pos 1 -ℤ tree_value v c) in
      then_gives (Has v (pos 1 -ℤ tree_value v c)) Q (opposite_tree base k c) _ (opposite-value v base meets k h c)
      (λ d e. gives_weaker Q _ (choose-value v base meets k h guard d (number_tree (pos 0))) (λ r is. (λ z. is.none z ∙ constant-value v base meets (pos 0), λ o. is.one o ∙ e)))

  -- ---- cells after stores

  after_stores-value : (k : Known) → Holds v k → (i : ℕ) (a first : CaseTree) → tree_value v first ≡ v.cell i (tree_value v a) → (ss : List Stored) → Gives (after_stores base k a first ss) (Has v (stored_value v i ss (tree_value v a)))
  unfolding after_stores stored_value
  after_stores-value k h i a first is [] = gives_some _ _ is
  after_stores-value k h i a first is (s ∷ before) =
      let x = tree_value v a in
      let Q = Has v (stored_value v i (s ∷ before) x) in
      then_gives (Has v (stored_value v i before x)) Q (after_stores base k a first before) _ (after_stores-value k h i a first is before)
      (λ t e. then_gives (Has v (truth (int_eq x (tree_value v s.index)))) Q (equal_tree base k a s.index) _ (equal-value v base meets k h a s.index)
      (λ c f. gives_weaker Q _ (choose-value v base meets k h c s.value t) (λ r is. by (int_eq x (tree_value v s.index)) r t f is e))) where
        by : (b : Bool) (r t : CaseTree) {c z : ℤ} → c ≡ truth b → Chosen c (tree_value v s.value) (tree_value v t) (tree_value v r) → tree_value v t ≡ z → tree_value v r ≡ cond b (tree_value v s.value) z
        by true r t e is f = is.one e
        by false r t e is f = is.none e ∙ f

  -- ---- expressions

  module _ (g : EventGraph) (s : State) (clk : ℕ) (so_far : SoFar) (agrees : Agrees v g s clk so_far) where
    -- what holds of the tree of an expression
    record Sound (e : Expression) : Type 0 where
      failed : (f : FaultKind) (guard : CaseTree) (n : Noted) → FailedIn v f n → Gives (valued base g so_far e guard n) (FailedAfter v f)
      idle : (guard : CaseTree) (n : Noted) → Fine v n → tree_value v guard ≡ pos 0 → Gives (valued base g so_far e guard n) (FineAfter v)
      busy : (guard : CaseTree) (n : Noted) → Fine v n → tree_value v guard ≡ pos 1 → Gives (valued base g so_far e guard n) (Outcome v (value_of g s clk e))

    sound_literal : (x : ℤ) → Sound (Number x)
    unfolding valued Outcome FailedAfter FineAfter
    sound_literal x = record {
      failed = λ f guard n failed. gives_some _ _ failed;
      idle = λ guard n fine zero. gives_some _ _ fine;
      busy = λ guard n fine one. gives_some _ _ (fine, constant-value v base meets x);
    }

    sound_truth : (b : Bool) → Sound (Truth b)
    unfolding valued Outcome FailedAfter FineAfter
    sound_truth b = record {
      failed = λ f guard n failed. gives_some _ _ failed;
      idle = λ guard n fine zero. gives_some _ _ fine;
      busy = λ guard n fine one. gives_some _ _ (fine, constant-value v base meets (number_of b));
    }

    clock-value : atom_value v ClockAtom ≡ pos clk
    unfolding atom_value
    clock-value = agrees.clock

    sound_clock : Sound Clock
    unfolding valued
    sound_clock = record {
      failed = λ f guard n failed. plain-failed v base meets f n _ failed;
      idle = λ guard n fine zero. plain-fine v base meets n _ fine;
      busy = λ guard n fine one. plain-value v base meets n _ (pos clk) fine (gives_weaker (Has v (pos clk)) _ (read_tree-value v base meets n.known fine.holds ClockAtom) (λ t e. e ∙ clock-value));
    }

    sound_scalar : (i : ℕ) → (variable_at g i).size ≡ 0 → Sound (Scalar i)
    unfolding valued Outcome FailedAfter FineAfter
    sound_scalar i alone = record {
      failed = λ f guard n failed. gives_some _ _ failed;
      idle = λ guard n fine zero. gives_some _ _ fine;
      busy = λ guard n fine one. gives_some _ _ (fine, agrees.scalars i alone);
    }

    -- what an operand gives, and what follows
    after : (r : OrFault ℤ) (next : ℤ → OrFault ℤ) (w : Valued) (o : Option Valued)
        → Outcome v r w
        → ((f : FaultKind) → FailedIn v f w.noted → Gives o (FailedAfter v f))
        → (Fine v w.noted → Gives o (Outcome v (next (tree_value v w.tree))))
        → Gives o (Outcome v (run.◌>>=◌ r next))
    unfolding Outcome FailedAfter
    after (Ok x) next w o (fine, is) failed good = subst (λ x. Gives o (Outcome v (next x))) is (good fine)
    after (Err f) next w o out failed good = failed f out

    -- an operand that is the value of the whole
    after_alone : (r : OrFault ℤ) (w : Valued) (o : Option Valued)
        → Outcome v r w
        → ((f : FaultKind) → FailedIn v f w.noted → Gives o (FailedAfter v f))
        → (Fine v w.noted → Gives o (Outcome v (Ok (tree_value v w.tree))))
        → Gives o (Outcome v r)
    unfolding Outcome FailedAfter
    after_alone (Ok x) w o (fine, is) failed good = subst (λ x. Gives o (Outcome v (Ok x))) is (good fine)
    after_alone (Err f) w o out failed good = failed f out

    sound_negative : (e : Expression) → Sound e → Sound (Negative e)
    unfolding valued FailedAfter FineAfter
    sound_negative e sound = record {
      failed = λ f guard n failed. then_gives (FailedAfter v f) (FailedAfter v f) (valued base g so_far e guard n) _ (sound.failed f guard n failed) (λ a h. checked-failed v base meets f guard a.noted _ h);
      idle = λ guard n fine zero. then_gives (FineAfter v) (FineAfter v) (valued base g so_far e guard n) _ (sound.idle guard n fine zero) (λ a h. checked-fine v base meets guard a.noted _ h zero);
      busy = λ guard n fine one. then_gives (Outcome v (value_of g s clk e)) (Outcome v (value_of g s clk (Negative e))) (valued base g so_far e guard n) _ (sound.busy guard n fine one)
          (λ a h. after (value_of g s clk e) (λ x. exact (neg_ℤ x)) a _ h (λ f failed. checked-failed v base meets f guard a.noted _ failed)
          (λ fine. checked-value v base meets guard a.noted _ (neg_ℤ (tree_value v a.tree)) fine one
          (gives_weaker (Has v (neg_ℤ (tree_value v a.tree))) _ (tree_difference-value v base meets a.noted.known fine.holds (number_tree (pos 0)) a.tree) (λ t e. let zero = constant-value v base meets (pos 0) in omega (arith, ints)))));
    }

    sound_not : (e : Expression) → Sound e → Sound (Not e)
    unfolding valued FailedAfter FineAfter
    sound_not e sound = record {
      failed = λ f guard n failed. then_gives (FailedAfter v f) (FailedAfter v f) (valued base g so_far e guard n) _ (sound.failed f guard n failed) (λ a h. plain-failed v base meets f a.noted _ h);
      idle = λ guard n fine zero. then_gives (FineAfter v) (FineAfter v) (valued base g so_far e guard n) _ (sound.idle guard n fine zero) (λ a h. plain-fine v base meets a.noted _ h);
      busy = λ guard n fine one. then_gives (Outcome v (value_of g s clk e)) (Outcome v (value_of g s clk (Not e))) (valued base g so_far e guard n) _ (sound.busy guard n fine one)
          (λ a h. after (value_of g s clk e) (λ x. Ok (pos 1 -ℤ x)) a _ h (λ f failed. plain-failed v base meets f a.noted _ failed)
          (λ fine. plain-value v base meets a.noted _ _ fine (opposite-value v base meets a.noted.known fine.holds a.tree)));
    }

    -- ---- cells

    index_test : (size j : ℕ) → within (pos 0) (pos size -ℤ pos 1) (pos j) ≡ nat_lt j size
    index_test size j = grind (arith, ints)

    below_zero : (size j : ℕ) → within (pos 0) (pos size -ℤ pos 1) (negsuc j) ≡ false
    below_zero size j = refl

    cell_noted : (i : ℕ) (guard t c : CaseTree) (n : Noted) (x : ℤ) → Fine v n → tree_value v guard ≡ pos 1 → tree_value v t ≡ stored_value v i (so_far.stores i) x → tree_value v c ≡ truth (within (pos 0) (pos (variable_at g i).size -ℤ pos 1) x)
        → Gives (note base faults.IndexOutside guard c n >>= λ m. Some (record { tree = t; noted = m })) (Outcome v (run.◌>>=◌ (indexed g i x) (λ p. Ok (cell_at s p))))
    unfolding Outcome
    cell_noted i guard t c n (pos j) fine one is holds = by (nat_lt j (variable_at g i).size) refl (holds ∙ ap truth (index_test (variable_at g i).size j)) where
      by : (b : Bool) → nat_lt j (variable_at g i).size ≡ b → tree_value v c ≡ truth b → Gives (note base faults.IndexOutside guard c n >>= λ m. Some (record { tree = t; noted = m })) (Outcome v (run.◌>>=◌ (cond b (Ok (record { variable = i; index = j })) (Err faults.IndexOutside)) (λ p. Ok (cell_at s p))))
      by true e h =
          let Q = Outcome v (Ok (cell_at s (record { variable = i; index = j }))) in
          then_gives (Fine v) Q (note base faults.IndexOutside guard c n) _ (note-fine v base meets faults.IndexOutside guard c n fine (inr h)) (λ m k. gives_some Q _ (k, is ∙ agrees.cells i j (ltb-true j (variable_at g i).size e)))
      by false e h =
          let Q = Outcome v (Err faults.IndexOutside) in
          then_gives (FailedIn v faults.IndexOutside) Q (note base faults.IndexOutside guard c n) _ (note-fails v base meets faults.IndexOutside guard c n fine one h) (λ m k. gives_some Q _ k)
    cell_noted i guard t c n (negsuc j) fine one is holds =
        let Q = Outcome v (Err faults.IndexOutside) in
        then_gives (FailedIn v faults.IndexOutside) Q (note base faults.IndexOutside guard c n) _ (note-fails v base meets faults.IndexOutside guard c n fine one (holds ∙ ap truth (below_zero (variable_at g i).size j))) (λ m k. gives_some Q _ k)

    regrouped : {A B : Type 0} (r : OrFault ℤ) (f : ℤ → OrFault A) (h : A → OrFault B) → run.◌>>=◌ (run.◌>>=◌ r f) h ≡ run.◌>>=◌ r (λ x. run.◌>>=◌ (f x) h)
    regrouped (Ok x) f h = refl
    regrouped (Err k) f h = refl

    -- the index's check is noted after the cell is read
    cell_rest : ℕ → CaseTree → Valued → Option Valued
    cell_rest i guard a = do
      first ← read_cell base i a.noted.known a.tree
      t ← after_stores base a.noted.known a.tree first (so_far.stores i)
      c ← between_tree base a.noted.known a.tree (pos 0) (pos (variable_at g i).size -ℤ pos 1)
      m ← note base faults.IndexOutside guard c a.noted
      Some (record { tree = t; noted = m })

    cell_rest-skip : (Q : Valued → Type 0) (P : Noted → Type 0) (i : ℕ) (guard : CaseTree) (a : Valued) → ((c : CaseTree) → Gives (note base faults.IndexOutside guard c a.noted) P) → ((t : CaseTree) (m : Noted) → P m → Q (record { tree = t; noted = m })) → Gives (cell_rest i guard a) Q
    unfolding cell_rest
    cell_rest-skip Q P i guard a noted so =
        skip Q (read_cell base i a.noted.known a.tree) _ (λ first. skip Q (after_stores base a.noted.known a.tree first (so_far.stores i)) _ (λ t. skip Q (between_tree base a.noted.known a.tree (pos 0) (pos (variable_at g i).size -ℤ pos 1)) _ (λ c.
        then_gives P Q (note base faults.IndexOutside guard c a.noted) _ (noted c) (λ m p. gives_some Q _ (so t m p)))))

    cell_rest-value : (i : ℕ) (guard : CaseTree) (a : Valued) → Fine v a.noted → tree_value v guard ≡ pos 1 → Gives (cell_rest i guard a) (Outcome v (run.◌>>=◌ (indexed g i (tree_value v a.tree)) (λ p. Ok (cell_at s p))))
    unfolding cell_rest
    cell_rest-value i guard a fine one =
        let x = tree_value v a.tree in
        let Q = Outcome v (run.◌>>=◌ (indexed g i x) (λ p. Ok (cell_at s p))) in
        then_gives (Has v (v.cell i x)) Q (read_cell base i a.noted.known a.tree) _ (read_cell-value v base meets i a.noted.known fine.holds a.tree)
        (λ first e. then_gives (Has v (stored_value v i (so_far.stores i) x)) Q (after_stores base a.noted.known a.tree first (so_far.stores i)) _ (after_stores-value a.noted.known fine.holds i a.tree first e (so_far.stores i))
        (λ t f. then_gives (Has v (truth (within (pos 0) (pos (variable_at g i).size -ℤ pos 1) x))) Q (between_tree base a.noted.known a.tree (pos 0) (pos (variable_at g i).size -ℤ pos 1)) _ (between-value v base meets a.noted.known fine.holds (pos 0) (pos (variable_at g i).size -ℤ pos 1) a.tree)
        (λ c h. cell_noted i guard t c a.noted x fine one f h)))

    sound_cell : (i : ℕ) (e : Expression) → Sound e → Sound (Cell i e)
    unfolding valued FailedAfter FineAfter cell_rest
    sound_cell i e sound = record {
      failed = λ f guard n failed. then_gives (FailedAfter v f) (FailedAfter v f) (valued base g so_far e guard n) _ (sound.failed f guard n failed) (λ a h. cell_rest-skip (FailedAfter v f) (FailedIn v f) i guard a (λ c. note-failed v base meets f faults.IndexOutside guard c a.noted h) (λ t m p. p));
      idle = λ guard n fine zero. then_gives (FineAfter v) (FineAfter v) (valued base g so_far e guard n) _ (sound.idle guard n fine zero) (λ a h. cell_rest-skip (FineAfter v) (Fine v) i guard a (λ c. note-fine v base meets faults.IndexOutside guard c a.noted h (inl zero)) (λ t m p. p));
      busy = λ guard n fine one. then_gives (Outcome v (value_of g s clk e)) (Outcome v (value_of g s clk (Cell i e))) (valued base g so_far e guard n) _ (sound.busy guard n fine one)
          (λ a h. subst (λ r. Gives (cell_rest i guard a) (Outcome v r)) (sym (regrouped (value_of g s clk e) (indexed g i) (λ p. Ok (cell_at s p)))) (after (value_of g s clk e) (λ x. run.◌>>=◌ (indexed g i x) (λ p. Ok (cell_at s p))) a _ h (λ f failed. cell_rest-skip (FailedAfter v f) (FailedIn v f) i guard a (λ c. note-failed v base meets f faults.IndexOutside guard c a.noted failed) (λ t m p. p))
          (λ fine. cell_rest-value i guard a fine one)));
    }

    -- ---- operators

    -- what follows the left operand
    binary_rest : Operator → Expression → CaseTree → Valued → Option Valued
    binary_rest op right guard a = do
      beside ← guard_beside base op a.noted.known guard a.tree
      b ← valued base g so_far right beside a.noted
      operator base op guard a.tree b.tree b.noted

    binary-failed : (op : Operator) (right : Expression) → Sound right → (f : FaultKind) (guard : CaseTree) (a : Valued) → FailedIn v f a.noted → Gives (binary_rest op right guard a) (FailedAfter v f)
    unfolding binary_rest FailedAfter
    binary-failed op right sound f guard a failed =
        skip (FailedAfter v f) (guard_beside base op a.noted.known guard a.tree) _ (λ beside.
        then_gives (FailedAfter v f) (FailedAfter v f) (valued base g so_far right beside a.noted) _ (sound.failed f beside a.noted failed) (λ b h. operator-failed f op guard a.tree b.tree b.noted h))

    -- the right operand's guard is 0 with the guard, and 1 with it unless the operator needs the left one
    beside-idle : (op : Operator) (k : Known) → Holds v k → (guard a : CaseTree) → tree_value v guard ≡ pos 0 → Gives (guard_beside base op k guard a) (Has v (pos 0))
    beside-idle Add k h guard a zero = gives_some _ _ zero
    beside-idle Subtract k h guard a zero = gives_some _ _ zero
    beside-idle Multiply k h guard a zero = gives_some _ _ zero
    beside-idle Divide k h guard a zero = gives_some _ _ zero
    beside-idle Remainder k h guard a zero = gives_some _ _ zero
    beside-idle Least k h guard a zero = gives_some _ _ zero
    beside-idle Greatest k h guard a zero = gives_some _ _ zero
    beside-idle Equal k h guard a zero = gives_some _ _ zero
    beside-idle NotEqual k h guard a zero = gives_some _ _ zero
    beside-idle Below k h guard a zero = gives_some _ _ zero
    beside-idle AtMost k h guard a zero = gives_some _ _ zero
    beside-idle Above k h guard a zero = gives_some _ _ zero
    beside-idle AtLeast k h guard a zero = gives_some _ _ zero
    beside-idle And k h guard a zero = gives_weaker (Has v (pos 0)) _ (guard_and-value k h guard a) (λ r is. is.0 zero)
    beside-idle Or k h guard a zero = gives_weaker (Has v (pos 0)) _ (guard_not-value k h guard a) (λ r is. is.0 zero)

    binary-idle : (op : Operator) (right : Expression) → Sound right → (guard : CaseTree) (a : Valued) → Fine v a.noted → tree_value v guard ≡ pos 0 → Gives (binary_rest op right guard a) (FineAfter v)
    unfolding binary_rest FineAfter
    binary-idle op right sound guard a fine zero =
        then_gives (Has v (pos 0)) (FineAfter v) (guard_beside base op a.noted.known guard a.tree) _ (beside-idle op a.noted.known fine.holds guard a.tree zero) (λ beside none.
        then_gives (FineAfter v) (FineAfter v) (valued base g so_far right beside a.noted) _ (sound.idle beside a.noted fine none) (λ b h. operator-fine op guard a.tree b.tree b.noted h zero))

    -- of two operands that are both evaluated
    binary-both : (op : Operator) (right : Expression) → Sound right → (guard : CaseTree) (a : Valued) → Fine v a.noted → tree_value v guard ≡ pos 1
        → guard_beside base op a.noted.known guard a.tree ≡ Some guard → ((x : ℤ) → decided op x ≡ false)
        → Gives (binary_rest op right guard a) (Outcome v (run.◌>>=◌ (value_of g s clk right) (operate op (tree_value v a.tree))))
    unfolding binary_rest FailedAfter
    binary-both op right sound guard a fine one same both =
        let Q = Outcome v (run.◌>>=◌ (value_of g s clk right) (operate op (tree_value v a.tree))) in
        then_gives (λ beside. beside ≡ guard) Q (guard_beside base op a.noted.known guard a.tree) _ (record { gives = λ x e. (let all = sym e ∙ same in cc) }) (λ beside is.
        then_gives (Outcome v (value_of g s clk right)) Q (valued base g so_far right beside a.noted) _ (sound.busy beside a.noted fine (ap (tree_value v) is ∙ one)) (λ b h.
        after (value_of g s clk right) (operate op (tree_value v a.tree)) b _ h (λ f failed. operator-failed f op guard a.tree b.tree b.noted failed)
        (λ good. operator-value guard a.tree b.tree b.noted good one op both)))

    -- the right operand of `and` or `or` with the value of the whole, where the left one leaves it open
    binary-open : (op : Operator) (right : Expression) → Sound right → (guard : CaseTree) (a : Valued) → Fine v a.noted
        → Gives (guard_beside base op a.noted.known guard a.tree) (Has v (pos 1))
        → ((b : CaseTree) (n : Noted) → Fine v n → Gives (operator base op guard a.tree b n) (Outcome v (Ok (tree_value v b))))
        → Gives (binary_rest op right guard a) (Outcome v (value_of g s clk right))
    unfolding binary_rest FailedAfter
    binary-open op right sound guard a fine opened whole =
        let Q = Outcome v (value_of g s clk right) in
        then_gives (Has v (pos 1)) Q (guard_beside base op a.noted.known guard a.tree) _ opened (λ beside is.
        then_gives (Outcome v (value_of g s clk right)) Q (valued base g so_far right beside a.noted) _ (sound.busy beside a.noted fine is) (λ b h.
        after_alone (value_of g s clk right) b _ h (λ f failed. operator-failed f op guard a.tree b.tree b.noted failed) (λ good. whole b.tree b.noted good)))

    -- where the left operand decides
    binary-closed : (op : Operator) (right : Expression) (x : ℤ) → Sound right → (guard : CaseTree) (a : Valued) → Fine v a.noted
        → Gives (guard_beside base op a.noted.known guard a.tree) (Has v (pos 0))
        → ((b : CaseTree) (n : Noted) → Fine v n → Gives (operator base op guard a.tree b n) (Outcome v (Ok x)))
        → Gives (binary_rest op right guard a) (Outcome v (Ok x))
    unfolding binary_rest FineAfter
    binary-closed op right x sound guard a fine closed whole =
        let Q = Outcome v (Ok x) in
        then_gives (Has v (pos 0)) Q (guard_beside base op a.noted.known guard a.tree) _ closed (λ beside is.
        then_gives (FineAfter v) Q (valued base g so_far right beside a.noted) _ (sound.idle beside a.noted fine is) (λ b h. whole b.tree b.noted h))

    -- the value of an operator, where the left operand has this one
    Result : Operator → Expression → ℤ → OrFault ℤ
    Result op right x = cond (decided op x) (Ok x) (run.◌>>=◌ (value_of g s clk right) (operate op x))

    right_alone : (r : OrFault ℤ) → r ≡ run.◌>>=◌ r (λ y. Ok y)
    right_alone (Ok y) = refl
    right_alone (Err f) = refl

    and-busy : (right : Expression) → Sound right → (guard : CaseTree) (a : Valued) → Fine v a.noted → tree_value v guard ≡ pos 1 → (x : ℤ) → tree_value v a.tree ≡ x → (x ≡ pos 1) ⊎ (x ≡ pos 0) → Gives (binary_rest And right guard a) (Outcome v (Result And right x))
    unfolding Result
    and-busy right sound guard a fine one x is (inl e) =
        subst (λ r. Gives (binary_rest And right guard a) (Outcome v r)) (right_alone (value_of g s clk right) ∙ sym (ap (λ x. cond (int_eq x (pos 0)) (Ok x) (run.◌>>=◌ (value_of g s clk right) (λ y. Ok y))) e))
        (binary-open And right sound guard a fine (gives_weaker (Has v (pos 1)) _ (guard_and-value a.noted.known fine.holds guard a.tree) (λ r k. k.1 one ∙ is ∙ e))
        (λ b n good. plain-value v base meets n _ _ good (gives_weaker (Has v (tree_value v b)) _ (choose-value v base meets n.known good.holds a.tree b (number_tree (pos 0))) (λ r k. k.one (is ∙ e)))))
    and-busy right sound guard a fine one x is (inr e) =
        subst (λ r. Gives (binary_rest And right guard a) (Outcome v r)) (sym (ap (λ x. cond (int_eq x (pos 0)) (Ok x) (run.◌>>=◌ (value_of g s clk right) (λ y. Ok y))) e))
        (binary-closed And right (pos 0) sound guard a fine (gives_weaker (Has v (pos 0)) _ (guard_and-value a.noted.known fine.holds guard a.tree) (λ r k. k.1 one ∙ is ∙ e))
        (λ b n good. plain-value v base meets n _ _ good (gives_weaker (Has v (pos 0)) _ (choose-value v base meets n.known good.holds a.tree b (number_tree (pos 0))) (λ r k. k.none (is ∙ e) ∙ constant-value v base meets (pos 0)))))

    or-busy : (right : Expression) → Sound right → (guard : CaseTree) (a : Valued) → Fine v a.noted → tree_value v guard ≡ pos 1 → (x : ℤ) → tree_value v a.tree ≡ x → (x ≡ pos 1) ⊎ (x ≡ pos 0) → Gives (binary_rest Or right guard a) (Outcome v (Result Or right x))
    unfolding Result
    or-busy right sound guard a fine one x is (inl e) =
        subst (λ r. Gives (binary_rest Or right guard a) (Outcome v r)) (sym (ap (λ x. cond (int_eq x (pos 1)) (Ok x) (run.◌>>=◌ (value_of g s clk right) (λ y. Ok y))) e))
        (binary-closed Or right (pos 1) sound guard a fine (gives_weaker (Has v (pos 0)) _ (guard_not-value a.noted.known fine.holds guard a.tree) (λ r k. k.1 one ∙ ap (λ x. pos 1 -ℤ x) (is ∙ e)))
        (λ b n good. plain-value v base meets n _ _ good (gives_weaker (Has v (pos 1)) _ (choose-value v base meets n.known good.holds a.tree (number_tree (pos 1)) b) (λ r k. k.one (is ∙ e) ∙ constant-value v base meets (pos 1)))))
    or-busy right sound guard a fine one x is (inr e) =
        subst (λ r. Gives (binary_rest Or right guard a) (Outcome v r)) (right_alone (value_of g s clk right) ∙ sym (ap (λ x. cond (int_eq x (pos 1)) (Ok x) (run.◌>>=◌ (value_of g s clk right) (λ y. Ok y))) e))
        (binary-open Or right sound guard a fine (gives_weaker (Has v (pos 1)) _ (guard_not-value a.noted.known fine.holds guard a.tree) (λ r k. k.1 one ∙ ap (λ x. pos 1 -ℤ x) (is ∙ e)))
        (λ b n good. plain-value v base meets n _ _ good (gives_weaker (Has v (tree_value v b)) _ (choose-value v base meets n.known good.holds a.tree (number_tree (pos 1)) b) (λ r k. k.none (is ∙ e)))))

    -- an operator after its left operand, of which truth is known where it is asked
    binary-busy : (op : Operator) (right : Expression) → Sound right → (guard : CaseTree) (a : Valued) → Fine v a.noted → tree_value v guard ≡ pos 1 → AsksTruth op ((tree_value v a.tree ≡ pos 1) ⊎ (tree_value v a.tree ≡ pos 0)) → Gives (binary_rest op right guard a) (Outcome v (Result op right (tree_value v a.tree)))
    unfolding Result
    binary-busy Add right sound guard a fine one asks = binary-both Add right sound guard a fine one refl (λ x. refl)
    binary-busy Subtract right sound guard a fine one asks = binary-both Subtract right sound guard a fine one refl (λ x. refl)
    binary-busy Multiply right sound guard a fine one asks = binary-both Multiply right sound guard a fine one refl (λ x. refl)
    binary-busy Divide right sound guard a fine one asks = binary-both Divide right sound guard a fine one refl (λ x. refl)
    binary-busy Remainder right sound guard a fine one asks = binary-both Remainder right sound guard a fine one refl (λ x. refl)
    binary-busy Least right sound guard a fine one asks = binary-both Least right sound guard a fine one refl (λ x. refl)
    binary-busy Greatest right sound guard a fine one asks = binary-both Greatest right sound guard a fine one refl (λ x. refl)
    binary-busy Equal right sound guard a fine one asks = binary-both Equal right sound guard a fine one refl (λ x. refl)
    binary-busy NotEqual right sound guard a fine one asks = binary-both NotEqual right sound guard a fine one refl (λ x. refl)
    binary-busy Below right sound guard a fine one asks = binary-both Below right sound guard a fine one refl (λ x. refl)
    binary-busy AtMost right sound guard a fine one asks = binary-both AtMost right sound guard a fine one refl (λ x. refl)
    binary-busy Above right sound guard a fine one asks = binary-both Above right sound guard a fine one refl (λ x. refl)
    binary-busy AtLeast right sound guard a fine one asks = binary-both AtLeast right sound guard a fine one refl (λ x. refl)
    binary-busy And right sound guard a fine one asks = and-busy right sound guard a fine one (tree_value v a.tree) refl asks
    binary-busy Or right sound guard a fine one asks = or-busy right sound guard a fine one (tree_value v a.tree) refl asks

    asked : {P Q : Type 0} (op : Operator) → (P → Q) → AsksTruth op P → AsksTruth op Q
    asked And f p = f p
    asked Or f p = f p
    asked op f p = tt

    binary-after : (op : Operator) (right : Expression) → Sound right → (guard : CaseTree) → tree_value v guard ≡ pos 1 → (r : OrFault ℤ) → AsksTruth op (IsTruthValue r) → (w : Valued) → Outcome v r w → Gives (binary_rest op right guard w) (Outcome v (run.◌>>=◌ r (Result op right)))
    unfolding Outcome FailedAfter
    binary-after op right sound guard one (Ok x) asks w (fine, is) =
        subst (λ x. Gives (binary_rest op right guard w) (Outcome v (Result op right x))) is
        (binary-busy op right sound guard w fine one (asked op (λ known. subst (λ x. (x ≡ pos 1) ⊎ (x ≡ pos 0)) (sym is) (known x refl)) asks))
    binary-after op right sound guard one (Err f) asks w failed = binary-failed op right sound f guard w failed

    sound_binary : (op : Operator) (left right : Expression) → AsksTruth op (IsTruthValue (value_of g s clk left)) → Sound left → Sound right → Sound (Binary op left right)
    unfolding valued FailedAfter FineAfter binary_rest Result
    sound_binary op left right asks first second = record {
      failed = λ f guard n failed. then_gives (FailedAfter v f) (FailedAfter v f) (valued base g so_far left guard n) _ (first.failed f guard n failed) (λ a h. binary-failed op right second f guard a h);
      idle = λ guard n fine zero. then_gives (FineAfter v) (FineAfter v) (valued base g so_far left guard n) _ (first.idle guard n fine zero) (λ a h. binary-idle op right second guard a h zero);
      busy = λ guard n fine one. then_gives (Outcome v (value_of g s clk left)) (Outcome v (value_of g s clk (Binary op left right))) (valued base g so_far left guard n) _ (first.busy guard n fine one)
          (λ a h. binary-after op right second guard one (value_of g s clk left) asks a h);
    }

    -- ---- if

    if_rest : Expression → Expression → CaseTree → Valued → Option Valued
    if_rest left right guard c = do
      where_one ← guard_and base c.noted.known guard c.tree
      a ← valued base g so_far left where_one c.noted
      where_zero ← guard_not base a.noted.known guard c.tree
      b ← valued base g so_far right where_zero a.noted
      plain base b.noted (choose base b.noted.known c.tree a.tree b.tree)

    module _ (left right : Expression) (first : Sound left) (second : Sound right) (guard : CaseTree) (c : Valued) where
      if-failed : (f : FaultKind) → FailedIn v f c.noted → Gives (if_rest left right guard c) (FailedAfter v f)
      unfolding if_rest FailedAfter
      if-failed f failed =
          let Q = FailedAfter v f in
          skip Q (guard_and base c.noted.known guard c.tree) _ (λ where_one.
          then_gives Q Q (valued base g so_far left where_one c.noted) _ (first.failed f where_one c.noted failed) (λ a h.
          skip Q (guard_not base a.noted.known guard c.tree) _ (λ where_zero.
          then_gives Q Q (valued base g so_far right where_zero a.noted) _ (second.failed f where_zero a.noted h) (λ b k. plain-failed v base meets f b.noted _ k))))

      if-idle : Fine v c.noted → tree_value v guard ≡ pos 0 → Gives (if_rest left right guard c) (FineAfter v)
      unfolding if_rest FineAfter
      if-idle fine zero =
          let Q = FineAfter v in
          then_gives (Has v (pos 0)) Q (guard_and base c.noted.known guard c.tree) _ (gives_weaker (Has v (pos 0)) _ (guard_and-value c.noted.known fine.holds guard c.tree) (λ r k. k.0 zero)) (λ where_one e.
          then_gives Q Q (valued base g so_far left where_one c.noted) _ (first.idle where_one c.noted fine e) (λ a h.
          then_gives (Has v (pos 0)) Q (guard_not base a.noted.known guard c.tree) _ (gives_weaker (Has v (pos 0)) _ (guard_not-value a.noted.known h.holds guard c.tree) (λ r k. k.0 zero)) (λ where_zero f.
          then_gives Q Q (valued base g so_far right where_zero a.noted) _ (second.idle where_zero a.noted h f) (λ b k. plain-fine v base meets b.noted _ k))))

      if-one : Fine v c.noted → tree_value v guard ≡ pos 1 → tree_value v c.tree ≡ pos 1 → Gives (if_rest left right guard c) (Outcome v (value_of g s clk left))
      unfolding if_rest FailedAfter FineAfter
      if-one fine one is =
          let Q = Outcome v (value_of g s clk left) in
          then_gives (Has v (pos 1)) Q (guard_and base c.noted.known guard c.tree) _ (gives_weaker (Has v (pos 1)) _ (guard_and-value c.noted.known fine.holds guard c.tree) (λ r k. k.1 one ∙ is)) (λ where_one e.
          then_gives Q Q (valued base g so_far left where_one c.noted) _ (first.busy where_one c.noted fine e) (λ a h.
          after_alone (value_of g s clk left) a _ h
          (λ f failed. skip (FailedAfter v f) (guard_not base a.noted.known guard c.tree) _ (λ where_zero.
          then_gives (FailedAfter v f) (FailedAfter v f) (valued base g so_far right where_zero a.noted) _ (second.failed f where_zero a.noted failed) (λ b k. plain-failed v base meets f b.noted _ k)))
          (λ good.
          let R = Outcome v (Ok (tree_value v a.tree)) in
          then_gives (Has v (pos 0)) R (guard_not base a.noted.known guard c.tree) _ (gives_weaker (Has v (pos 0)) _ (guard_not-value a.noted.known good.holds guard c.tree) (λ r k. k.1 one ∙ ap (λ x. pos 1 -ℤ x) is)) (λ where_zero f.
          then_gives (FineAfter v) R (valued base g so_far right where_zero a.noted) _ (second.idle where_zero a.noted good f) (λ b k.
          plain-value v base meets b.noted _ _ k (gives_weaker (Has v (tree_value v a.tree)) _ (choose-value v base meets b.noted.known k.holds c.tree a.tree b.tree) (λ r q. q.one is)))))))

      if-zero : Fine v c.noted → tree_value v guard ≡ pos 1 → tree_value v c.tree ≡ pos 0 → Gives (if_rest left right guard c) (Outcome v (value_of g s clk right))
      unfolding if_rest FailedAfter FineAfter
      if-zero fine one is =
          let Q = Outcome v (value_of g s clk right) in
          then_gives (Has v (pos 0)) Q (guard_and base c.noted.known guard c.tree) _ (gives_weaker (Has v (pos 0)) _ (guard_and-value c.noted.known fine.holds guard c.tree) (λ r k. k.1 one ∙ is)) (λ where_one e.
          then_gives (FineAfter v) Q (valued base g so_far left where_one c.noted) _ (first.idle where_one c.noted fine e) (λ a h.
          then_gives (Has v (pos 1)) Q (guard_not base a.noted.known guard c.tree) _ (gives_weaker (Has v (pos 1)) _ (guard_not-value a.noted.known h.holds guard c.tree) (λ r k. k.1 one ∙ ap (λ x. pos 1 -ℤ x) is)) (λ where_zero f.
          then_gives Q Q (valued base g so_far right where_zero a.noted) _ (second.busy where_zero a.noted h f) (λ b k.
          after_alone (value_of g s clk right) b _ k (λ f failed. plain-failed v base meets f b.noted _ failed)
          (λ good. plain-value v base meets b.noted _ _ good (gives_weaker (Has v (tree_value v b.tree)) _ (choose-value v base meets b.noted.known good.holds c.tree a.tree b.tree) (λ r q. q.none is)))))))

      if-after : tree_value v guard ≡ pos 1 → (r : OrFault ℤ) → IsTruthValue r → Outcome v r c → Gives (if_rest left right guard c) (Outcome v (run.◌>>=◌ r (λ x. cond (is_one x) (value_of g s clk left) (value_of g s clk right))))
      unfolding Outcome FailedAfter
      if-after one (Ok x) asks (fine, is) = by (asks x refl) where
        by : (x ≡ pos 1) ⊎ (x ≡ pos 0) → Gives (if_rest left right guard c) (Outcome v (cond (is_one x) (value_of g s clk left) (value_of g s clk right)))
        by (inl e) = subst (λ x. Gives (if_rest left right guard c) (Outcome v (cond (is_one x) (value_of g s clk left) (value_of g s clk right)))) (sym e) (if-one fine one (is ∙ e))
        by (inr e) = subst (λ x. Gives (if_rest left right guard c) (Outcome v (cond (is_one x) (value_of g s clk left) (value_of g s clk right)))) (sym e) (if-zero fine one (is ∙ e))
      if-after one (Err f) asks failed = if-failed f failed

    sound_if : (test left right : Expression) → IsTruthValue (value_of g s clk test) → Sound test → Sound left → Sound right → Sound (If test left right)
    unfolding valued FailedAfter FineAfter if_rest
    sound_if test left right asks zeroth first second = record {
      failed = λ f guard n failed. then_gives (FailedAfter v f) (FailedAfter v f) (valued base g so_far test guard n) _ (zeroth.failed f guard n failed) (λ c h. if-failed left right first second guard c f h);
      idle = λ guard n fine zero. then_gives (FineAfter v) (FineAfter v) (valued base g so_far test guard n) _ (zeroth.idle guard n fine zero) (λ c h. if-idle left right first second guard c h zero);
      busy = λ guard n fine one. then_gives (Outcome v (value_of g s clk test)) (Outcome v (value_of g s clk (If test left right))) (valued base g so_far test guard n) _ (zeroth.busy guard n fine one)
          (λ c h. if-after left right first second guard c one (value_of g s clk test) asks h);
    }

    sound : (e : Expression) → TruthsWhereAsked g s clk e → Sound e
    unfolding TruthsWhereAsked
    sound (Number x) asks = sound_literal x
    sound (Truth b) asks = sound_truth b
    sound Clock asks = sound_clock
    sound (Scalar i) asks = sound_scalar i asks
    sound (Cell i e) asks = sound_cell i e (sound e asks)
    sound (Negative e) asks = sound_negative e (sound e asks)
    sound (Not e) asks = sound_not e (sound e asks)
    sound (Binary op a b) asks = sound_binary op a b asks.0 (sound a asks.1.0) (sound b asks.1.1)
    sound (If c a b) asks = sound_if c a b asks.0 (sound c asks.1.0) (sound a asks.1.1.0) (sound b asks.1.1.1)

    pub valued-busy : (e : Expression) → TruthsWhereAsked g s clk e → (guard : CaseTree) (n : Noted) → Fine v n → tree_value v guard ≡ pos 1 → Gives (valued base g so_far e guard n) (Outcome v (value_of g s clk e))
    valued-busy e asks guard n fine one = (sound e asks).busy guard n fine one

    pub valued-idle : (e : Expression) → TruthsWhereAsked g s clk e → (guard : CaseTree) (n : Noted) → Fine v n → tree_value v guard ≡ pos 0 → (w : Valued) → valued base g so_far e guard n ≡ Some w → Fine v w.noted
    unfolding FineAfter
    valued-idle e asks guard n fine zero w is = ((sound e asks).idle guard n fine zero).gives w is

    pub valued-failed : (e : Expression) → TruthsWhereAsked g s clk e → (f : FaultKind) (guard : CaseTree) (n : Noted) → FailedIn v f n → (w : Valued) → valued base g so_far e guard n ≡ Some w → FailedIn v f w.noted
    unfolding FailedAfter
    valued-failed e asks f guard n failed w is = ((sound e asks).failed f guard n failed).gives w is
