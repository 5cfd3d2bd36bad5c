-- Edges that were joined are joined at each moment.
use Rattle.std.proofs.Common.{◌≡◌, ℕ, zero, suc, ℤ, pos, Bool, true, false, cond, ◌&&◌, ◌||◌, ◌==◌, List, [], ◌∷◌, ◌++◌, map, length, IsTrue, Option, Some, None, ◌⊎◌, inl, inr, refl, sym, ap, ap₂, ◌∙◌, subst, arith, append_assoc, append-nil}
use Rattle.std.proofs.lemmas.List.{map-append}
use Rattle.std.proofs.lemmas.Bool.{eqb-true}
use Rattle.std.specs.List.{AllByRecursion}
use Rattle.model_core.specs.Run.Value.{is_one}
use Rattle.model_core.proofs.BothTrue.{and_first, and_second}
use Rattle.tree_laws.specs.SumValues.{Valuation}
use Rattle.tree_laws.specs.Limits.{◌>>=◌}
use Rattle.tree_laws.specs.SumEnds.{Ground, Known}
use Rattle.tree_laws.specs.Meaning.{Meets, Holds}
use Rattle.tree_laws.specs.Trees.{CaseTree, tree_value}
use Rattle.tree_laws.specs.TreesJoined.{choose}
use Rattle.tree_laws.specs.TreeConditions.{number_tree}
use Rattle.tree_laws.proofs.Gives.{Gives, gives_some, then_gives, gives_weaker, gives_cond}
use Rattle.tree_laws.proofs.JoinedTrees.{Chosen, choose-value}
use Rattle.tree_laws.proofs.ConditionTrees.{constant-value}
use Rattle.pair_laws.specs.EdgesNow.{FormNow, Schedules, TakesNext, TakesEqual, TakesAll, effect_at}
use Rattle.pair_laws.specs.Exchanges.{EdgeEffect, effects_made, may_change_places, Ordered, next, joined_edge, Tidied, by_effects, by_order, by_joining, tidied_twice}
use Rattle.event_laws.specs.EdgesMade.{EdgeTrees, edge_now}
use Rattle.event_laws.specs.EdgesTidied.{EdgeJoined, same_form, never_both, all_may_change, each_chosen, trees_of_two, may_join, joined_with, joined_within, edges_ordered, edges_joined, edges_renewed, edges_tidied, renewed_under}
use Rattle.event_laws.proofs.EdgesChange.{one-is, AllMayChange, never_both-apart, all_may_change-now}
use Rattle.event_laws.proofs.EdgesInOrder.{ordered_already, ordered_within-is}
use Rattle.event_laws.proofs.EdgesRenewed.{AlikeWhereHeld, alike-made, IsUnder, renewed_under-is, at, effect_of, effect_in_parts, edges_renewed-made}

true-same_form : (f g : FormNow) → same_form f g ≡ true → f ≡ g
true-same_form (Schedules p) (Schedules q) e = ap Schedules (eqb-true p q e)
true-same_form (Schedules p) TakesNext e = cc
true-same_form (Schedules p) TakesEqual e = cc
true-same_form (Schedules p) TakesAll e = cc
true-same_form TakesNext (Schedules q) e = cc
true-same_form TakesNext TakesNext e = refl
true-same_form TakesNext TakesEqual e = cc
true-same_form TakesNext TakesAll e = cc
true-same_form TakesEqual (Schedules q) e = cc
true-same_form TakesEqual TakesNext e = cc
true-same_form TakesEqual TakesEqual e = refl
true-same_form TakesEqual TakesAll e = cc
true-same_form TakesAll (Schedules q) e = cc
true-same_form TakesAll TakesNext e = cc
true-same_form TakesAll TakesEqual e = cc
true-same_form TakesAll TakesAll e = refl

-- with an edge before them
under_one : {ks ls : List EdgeEffect} (x : EdgeEffect) → Tidied ks ls → Tidied (x ∷ ks) (x ∷ ls)
under_one x (by_effects e) = by_effects (ap (λ fs. cond x.holds (x.effect ∷ fs) fs) e)
under_one x (by_order {ks} {ls} o) = by_order (next [] x ks ls tt o)
under_one x (by_joining front a between b back apart all) = by_joining (x ∷ front) a between b back apart all
under_one x (tidied_twice one two) = tidied_twice (under_one x one) (under_one x two)

module _ (v : Valuation) (base : Ground) (meets : Meets base v) (k : Known) (h : Holds v k) (clk : ℕ) where
  abbrev now : EdgeTrees → EdgeEffect
  now e = at v base meets k h clk e

  -- each value is that of the first list where the condition is 1, and of the second where it is 0
  pub record AreChosen (c : CaseTree) (as_ bs ts : List CaseTree) : Type 0 where
    pub one : tree_value v c ≡ pos 1 → map (tree_value v) ts ≡ map (tree_value v) as_
    pub none : tree_value v c ≡ pos 0 → map (tree_value v) ts ≡ map (tree_value v) bs

  each_chosen-are : (c : CaseTree) (as_ bs : List CaseTree) → length as_ ≡ length bs → Gives (each_chosen base k c as_ bs) (AreChosen c as_ bs)
  unfolding each_chosen
  each_chosen-are c [] [] e = gives_some _ _ (record { one = λ t. refl; none = λ t. refl })
  each_chosen-are c [] (b ∷ bs) e = absurd (omega (arith, e))
  each_chosen-are c (a ∷ as_) [] e = absurd (omega (arith, e))
  each_chosen-are c (a ∷ as_) (b ∷ bs) e =
      let Q = AreChosen c (a ∷ as_) (b ∷ bs) in
      then_gives (λ t. Chosen (tree_value v c) (tree_value v a) (tree_value v b) (tree_value v t)) Q (choose base k c a b) _ (choose-value v base meets k h c a b)
      (λ t chosen. then_gives (AreChosen c as_ bs) Q (each_chosen base k c as_ bs) _ (each_chosen-are c as_ bs (omega (arith, e)))
      (λ ts are. gives_some Q _ (record { one = λ is. ap₂ (λ x xs. x ∷ xs) (chosen.one is) (are.one is); none = λ is. ap₂ (λ x xs. x ∷ xs) (chosen.none is) (are.none is) })))

  -- one edge for two has the effect of the one that has one
  pub record IsOfTwo (a b c : EdgeTrees) : Type 0 where
    pub form : c.form ≡ a.form
    pub target : c.target ≡ a.target
    pub condition : Chosen (tree_value v a.condition) (pos 1) (tree_value v b.condition) (tree_value v c.condition)
    pub first : tree_value v a.condition ≡ pos 1 → (tree_value v c.delay ≡ tree_value v a.delay) × (map (tree_value v) c.values ≡ map (tree_value v) a.values)
    pub second : tree_value v a.condition ≡ pos 0 → tree_value v b.condition ≡ pos 1 → (tree_value v c.delay ≡ tree_value v b.delay) × (map (tree_value v) c.values ≡ map (tree_value v) b.values)

  of_two-is : (a b : EdgeTrees) → length a.values ≡ length b.values → Gives (trees_of_two base k a b) (IsOfTwo a b)
  of_two-is a b long =
      let Q = IsOfTwo a b in
      then_gives (λ t. Chosen (tree_value v a.condition) (tree_value v (number_tree (pos 1))) (tree_value v b.condition) (tree_value v t)) Q (choose base k a.condition (number_tree (pos 1)) b.condition) _ (choose-value v base meets k h a.condition (number_tree (pos 1)) b.condition)
      (λ c of_c. then_gives (λ t. Chosen (tree_value v a.condition) (tree_value v a.delay) (tree_value v b.delay) (tree_value v t)) Q (choose base k a.condition a.delay b.delay) _ (choose-value v base meets k h a.condition a.delay b.delay)
      (λ d of_d. then_gives (AreChosen a.condition a.values b.values) Q (each_chosen base k a.condition a.values b.values) _ (each_chosen-are a.condition a.values b.values long)
      (λ vs of_vs. gives_weaker Q _ (renewed_under-is v base meets k h c d vs a) (by c of_c d of_d vs of_vs)))) where
        by : (c : CaseTree) → Chosen (tree_value v a.condition) (tree_value v (number_tree (pos 1))) (tree_value v b.condition) (tree_value v c)
            → (d : CaseTree) → Chosen (tree_value v a.condition) (tree_value v a.delay) (tree_value v b.delay) (tree_value v d)
            → (vs : List CaseTree) → AreChosen a.condition a.values b.values vs → (f : EdgeTrees) → IsUnder v base meets k h c d vs a f → IsOfTwo a b f
        by c of_c d of_d vs of_vs f is =
            let chosen : Chosen (tree_value v a.condition) (pos 1) (tree_value v b.condition) (tree_value v c) = subst (λ x. Chosen (tree_value v a.condition) x (tree_value v b.condition) (tree_value v c)) (constant-value v base meets (pos 1)) of_c in
            let at_c : tree_value v c ≡ tree_value v f.condition = sym (ap (tree_value v) is.condition) in
            record {
              form = is.form;
              target = is.target;
              condition = subst (Chosen (tree_value v a.condition) (pos 1) (tree_value v b.condition)) at_c chosen;
              first = λ one. let holds : is_one (tree_value v c) ≡ true = ap is_one (chosen.one one) in (is.delays holds ∙ of_d.one one, is.values_too holds ∙ of_vs.one one);
              second = λ zero one. let holds : is_one (tree_value v c) ≡ true = ap is_one (chosen.none zero ∙ one) in (is.delays holds ∙ of_d.none zero, is.values_too holds ∙ of_vs.none zero);
            }

  same-effect : (a c : EdgeTrees) → c.form ≡ a.form → c.target ≡ a.target → tree_value v c.delay ≡ tree_value v a.delay → map (tree_value v) c.values ≡ map (tree_value v) a.values → (now a).effect ≡ (now c).effect
  same-effect a c form target delay values =
      effect_in_parts v base meets k h clk a
      ∙ ap (λ form. effect_of v base meets k h clk form a.target (tree_value v a.delay) (map (tree_value v) a.values)) (sym form)
      ∙ ap (λ target. effect_of v base meets k h clk c.form target (tree_value v a.delay) (map (tree_value v) a.values)) (sym target)
      ∙ ap₂ (λ d vs. effect_of v base meets k h clk c.form c.target d vs) (sym delay) (sym values)
      ∙ sym (effect_in_parts v base meets k h clk c)

  both-alike : (a b c : EdgeTrees) → a.form ≡ b.form → a.target ≡ b.target → IsOfTwo a b c → AlikeWhereHeld (joined_edge (now a) (now b)) (now c)
  both-alike a b c form target is = elim is.condition.truth [
    | inl one ↦ record {
      holds = ap (λ x. is_one x || is_one (tree_value v b.condition)) one ∙ sym (ap is_one (is.condition.one one));
      effect = λ held. ap (λ x. cond (is_one x) (now a).effect (now b).effect) one ∙ same-effect a c is.form is.target (is.first one).0 (is.first one).1;
    }
    | inr none ↦ record {
      holds = ap (λ x. is_one x || is_one (tree_value v b.condition)) none ∙ sym (ap is_one (is.condition.none none));
      effect = λ held. let one = one-is (tree_value v b.condition) (sym (ap (λ x. is_one x || is_one (tree_value v b.condition)) none) ∙ held) in
          ap (λ x. cond (is_one x) (now a).effect (now b).effect) none ∙ same-effect b c (is.form ∙ form) (is.target ∙ target) (is.second none one).0 (is.second none one).1;
    }
  ]

  -- why two edges may be joined
  pub record MayJoin (a : EdgeTrees) (between : List EdgeTrees) (b : EdgeTrees) : Type 0 where
    pub form : a.form ≡ b.form
    pub target : a.target ≡ b.target
    pub long : length a.values ≡ length b.values
    pub apart : ((now a).holds && (now b).holds) ≡ false
    pub free : AllMayChange v base meets k h clk between b

  may_join-is : (a : EdgeTrees) (between : List EdgeTrees) (b : EdgeTrees) → Gives (may_join base k a between b) (λ m. m ≡ true → MayJoin a between b)
  may_join-is a between b =
      let Q : Bool → Type 0 = λ m. m ≡ true → MayJoin a between b in
      gives_cond Q (same_form a.form b.form && ((a.target == b.target) && (length a.values == length b.values))) _ _
      (λ alike. then_gives (λ n. n ≡ true → ((now a).holds && (now b).holds) ≡ false) Q (never_both base k a b) _ (never_both-apart v base meets k h a b)
      (λ apart is_apart. gives_cond Q apart _ _
      (λ e. gives_weaker Q _ (all_may_change-now v base meets k h clk between b) (λ m free t.
      let more = and_second (same_form a.form b.form) _ alike in
      record {
        form = true-same_form a.form b.form (and_first (same_form a.form b.form) _ alike);
        target = eqb-true a.target b.target (and_first (a.target == b.target) _ more);
        long = eqb-true (length a.values) (length b.values) (and_second (a.target == b.target) _ more);
        apart = is_apart e;
        free = free t;
      }))
      (λ e. gives_some Q false (λ t. cc))))
      (λ e. gives_some Q false (λ t. cc))

  abbrev at_moment : List EdgeTrees → List EdgeEffect
  at_moment es = map (λ t. effect_at clk (edge_now v t)) es

  -- edges with one edge for two of them
  one_for_two : (a : EdgeTrees) (between : List EdgeTrees) (b : EdgeTrees) (back : List EdgeTrees) (c : EdgeTrees) → MayJoin a between b → IsOfTwo a b c → Tidied (at_moment (a ∷ between ++ b ∷ back)) (at_moment (c ∷ between ++ back))
  one_for_two a between b back c may is =
      subst (λ ks. Tidied (now a ∷ ks) (at_moment (c ∷ between ++ back))) (sym (map-append _ between (b ∷ back)))
      (tidied_twice (by_joining [] (now a) (at_moment between) (now b) (at_moment back) may.apart may.free)
      (by_effects (alike-made (joined_edge (now a) (now b)) (now c) (both-alike a b c may.form may.target is) (at_moment between ++ at_moment back) ∙ ap (λ ks. effects_made (now c ∷ ks)) (sym (map-append _ between back)))))

  joined_with-is : (a : EdgeTrees) (between back : List EdgeTrees) → Gives (joined_with base k a between back) (λ j. Tidied (at_moment (a ∷ between ++ back)) (at_moment (j.edge ∷ j.others)))
  unfolding joined_with
  joined_with-is a between [] = gives_some _ _ (subst (λ es. Tidied (at_moment (a ∷ es)) (at_moment (a ∷ between))) (sym (append-nil between)) (by_order (ordered_already (at_moment (a ∷ between)))))
  joined_with-is a between (b ∷ back) =
      let Q : EdgeJoined → Type 0 = λ j. Tidied (at_moment (a ∷ between ++ b ∷ back)) (at_moment (j.edge ∷ j.others)) in
      then_gives (λ m. m ≡ true → MayJoin a between b) Q (may_join base k a between b) _ (may_join-is a between b)
      (λ m may. gives_cond Q m _ _
      (λ e. then_gives (IsOfTwo a b) Q (trees_of_two base k a b) _ (of_two-is a b (may e).long)
      (λ c is. gives_weaker Q _ (joined_with-is c between back) (λ j tidied. tidied_twice (one_for_two a between b back c (may e) is) tidied)))
      (λ e. gives_weaker Q _ (joined_with-is a (between ++ b ∷ []) back) (λ j tidied. subst (λ es. Tidied (at_moment (a ∷ es)) (at_moment (j.edge ∷ j.others))) (append_assoc between (b ∷ []) back) tidied)))

  joined_within-is : (n : ℕ) (es : List EdgeTrees) → Gives (joined_within base k n es) (λ js. Tidied (at_moment es) (at_moment js))
  unfolding joined_within
  joined_within-is zero es = gives_some _ _ (by_order (ordered_already (at_moment es)))
  joined_within-is (suc n) [] = gives_some _ _ (by_order (ordered_already []))
  joined_within-is (suc n) (a ∷ es) =
      let Q : List EdgeTrees → Type 0 = λ js. Tidied (at_moment (a ∷ es)) (at_moment js) in
      then_gives (λ j. Tidied (at_moment (a ∷ es)) (at_moment (j.edge ∷ j.others))) Q (joined_with base k a [] es) _ (joined_with-is a [] es)
      (λ j first. then_gives (λ js. Tidied (at_moment j.others) (at_moment js)) Q (joined_within base k n j.others) _ (joined_within-is n j.others)
      (λ more others. gives_some Q _ (tidied_twice first (under_one (now j.edge) others))))

  pub edges_tidied-is : (less : EdgeTrees → EdgeTrees → Bool) (es : List EdgeTrees) → Gives (edges_tidied base k less es) (λ rs. Tidied (at_moment es) (at_moment rs))
  edges_tidied-is less es =
      let Q : List EdgeTrees → Type 0 = λ rs. Tidied (at_moment es) (at_moment rs) in
      then_gives (λ rs. effects_made (at_moment es) ≡ effects_made (at_moment rs)) Q (edges_renewed base k es) _ (edges_renewed-made v base meets k h clk es)
      (λ rs renewed. then_gives (λ os. Ordered (at_moment rs) (at_moment os)) Q (edges_ordered base k less rs) _ (ordered_within-is v base meets k h clk less (length rs) rs)
      (λ os ordered. then_gives (λ js. Tidied (at_moment os) (at_moment js)) Q (edges_joined base k os) _ (joined_within-is (length os) os)
      (λ js joined. gives_weaker Q _ (ordered_within-is v base meets k h clk less (length js) js)
      (λ ls again. tidied_twice (by_effects renewed) (tidied_twice (by_order ordered) (tidied_twice joined (by_order again)))))))
