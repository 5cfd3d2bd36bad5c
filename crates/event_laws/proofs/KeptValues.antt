-- What a variable holds when a tree is stored in it has the value that the run keeps, or its check fails.
use Rattle.std.proofs.Common.{◌≡◌, ℕ, ℤ, pos, int_lt, int_le, Bool, true, false, cond, List, [], ◌∷◌, map, zip, Some, Ok, Err, inr, refl, sym, ap, ap₂, ◌∙◌, subst, arith}
use Rattle.std.proofs.lemmas.Int.{ints}
use Rattle.sig_base.specs.declared.fault.FaultKind.{FaultKind}
use Rattle.sig_base.specs.declared.fault.FaultKind.TheVariants as faults
use Rattle.model_core.specs.EventGraph.{EventGraph, Variable}
use Rattle.model_core.specs.Run.State.{Place, variable_at, within}
use Rattle.model_core.specs.Run.Value.{OrFault}
use Rattle.model_core.specs.Run.Value as run
use Rattle.model_core.specs.Run.Changes.{kept}
use Rattle.model_core.specs.Rules.BoundsOfParts.{is_truth_kind}
use Rattle.tree_laws.specs.SumValues.{Valuation}
use Rattle.tree_laws.specs.Limits.{◌>>=◌}
use Rattle.tree_laws.specs.SumEnds.{Ground}
use Rattle.tree_laws.specs.Meaning.{Meets}
use Rattle.tree_laws.specs.Trees.{CaseTree, tree_value}
use Rattle.tree_laws.specs.TreesJoined.{choose, renewed}
use Rattle.tree_laws.specs.TreeConditions.{number_tree, at_most_tree, between_tree}
use Rattle.tree_laws.specs.Valued.{Noted, Valued, note}
use Rattle.tree_laws.specs.ChecksHold.{Fine, FailedIn}
use Rattle.tree_laws.proofs.Gives.{Gives, gives_some, then_gives, gives_cond}
use Rattle.tree_laws.proofs.CasesOfTrees.{Has}
use Rattle.tree_laws.proofs.JoinedTrees.{Chosen, choose-value, renewed-value}
use Rattle.tree_laws.proofs.ConditionTrees.{truth, constant-value, at_most-value, between-value}
use Rattle.tree_laws.proofs.NotedChecks.{skip, note-failed, note-fine, note-fails}
use Rattle.event_laws.specs.Making.{TreesMade}
use Rattle.event_laws.specs.ChangesMade.{always, PlaceTree, clipped, range_checked, kept_tree, all_kept}
use Rattle.event_laws.proofs.ReachedTogether.{Reaches, reach, HasValue}
use Rattle.event_laws.proofs.PlacesValued.{PlacesAre}

-- the value at a place, as the run keeps it
abbrev pub kept_at : EventGraph → Place × ℤ → OrFault ℤ
kept_at g (p, x) = kept (variable_at g p.variable) x

chosen_by : (c x y z : ℤ) (b : Bool) → c ≡ truth b → Chosen c x y z → z ≡ cond b x y
chosen_by c x y z true e is = is.one e
chosen_by c x y z false e is = is.none e

-- a number moved to the nearest end of a range, in two steps and as a run does it
moved : (lo hi z : ℤ) → int_le lo hi ≡ true → cond (int_le (cond (int_le z lo) lo z) hi) (cond (int_le z lo) lo z) hi ≡ cond (within lo hi z) z (cond (int_lt z lo) lo hi)
moved lo hi z some = grind (arith, ints)

-- ---- several trees

module _ (v : Valuation) (g : EventGraph) where
  -- trees of truth values that are stored lie in their ranges
  abbrev pub TreesFit : List PlaceTree → List CaseTree → Type 0
  TreesFit [] ts = Unit {0}
  TreesFit (q ∷ qs) [] = Unit {0}
  TreesFit (q ∷ qs) (t ∷ ts) = (is_truth_kind (variable_at g q.variable).kind ≡ true → within (variable_at g q.variable).lo (variable_at g q.variable).hi (tree_value v t) ≡ true) × TreesFit qs ts

  abbrev pub KeptAre : List ℤ → TreesMade → Type 0
  KeptAre ys w = map (tree_value v) w.trees ≡ ys

module _ (v : Valuation) (base : Ground) (meets : Meets base v) where
  clipped-value : (lo hi : ℤ) → int_le lo hi ≡ true → (t : CaseTree) (n : Noted) → Fine v n
      → Gives (clipped base lo hi t n) (λ (w : Valued). Fine v w.noted × (tree_value v w.tree ≡ cond (within lo hi (tree_value v t)) (tree_value v t) (cond (int_lt (tree_value v t) lo) lo hi)))
  clipped-value lo hi some t n fine =
      let z = tree_value v t in
      let Q : Valued → Type 0 = λ w. Fine v w.noted × (tree_value v w.tree ≡ cond (within lo hi z) z (cond (int_lt z lo) lo hi)) in
      then_gives (Has v (truth (int_le z lo))) Q (at_most_tree base n.known t lo) _ (at_most-value v base meets lo n.known fine.holds t) (λ low at_low.
      then_gives (λ u. Chosen (tree_value v low) (tree_value v (number_tree lo)) z (tree_value v u)) Q (choose base n.known low (number_tree lo) t) _ (choose-value v base meets n.known fine.holds low (number_tree lo) t) (λ u at_u.
      let is_u : tree_value v u ≡ cond (int_le z lo) lo z = chosen_by _ _ _ _ (int_le z lo) at_low at_u ∙ ap (λ x. cond (int_le z lo) x z) (constant-value v base meets lo) in
      then_gives (Has v (truth (int_le (tree_value v u) hi))) Q (at_most_tree base n.known u hi) _ (at_most-value v base meets hi n.known fine.holds u) (λ fits at_fits.
      then_gives (λ w. Chosen (tree_value v fits) (tree_value v u) (tree_value v (number_tree hi)) (tree_value v w)) Q (choose base n.known fits u (number_tree hi)) _ (choose-value v base meets n.known fine.holds fits u (number_tree hi)) (λ w at_w.
      let is_w : tree_value v w ≡ cond (int_le (tree_value v u) hi) (tree_value v u) hi = chosen_by _ _ _ _ (int_le (tree_value v u) hi) at_fits at_w ∙ ap (λ x. cond (int_le (tree_value v u) hi) (tree_value v u) x) (constant-value v base meets hi) in
      gives_some Q _ (fine, is_w ∙ ap (λ x. cond (int_le x hi) x hi) is_u ∙ moved lo hi z some)))))

  range-stopped : (lo hi : ℤ) (t : CaseTree) (f : FaultKind) (n : Noted) → FailedIn v f n → Gives (range_checked base lo hi t n) (λ (w : Valued). FailedIn v f w.noted)
  range-stopped lo hi t f n failed =
      let Q : Valued → Type 0 = λ w. FailedIn v f w.noted in
      skip Q (between_tree base n.known t lo hi) _ (λ c.
      then_gives (FailedIn v f) Q (note base faults.RangeOutside always c n) _ (note-failed v base meets f faults.RangeOutside always c n failed) (λ m k.
      skip Q (renewed base m.known t) _ (λ r. gives_some Q _ k)))

  range-value : (lo hi : ℤ) (t : CaseTree) (n : Noted) → Fine v n → Gives (range_checked base lo hi t n) (Reaches v (λ (w : Valued). w.noted) (HasValue v) (cond (within lo hi (tree_value v t)) (Ok (tree_value v t)) (Err faults.RangeOutside)))
  range-value lo hi t n fine =
      then_gives (Has v (truth (within lo hi (tree_value v t)))) (Reaches v (λ (w : Valued). w.noted) (HasValue v) (cond (within lo hi (tree_value v t)) (Ok (tree_value v t)) (Err faults.RangeOutside)))
      (between_tree base n.known t lo hi) _ (between-value v base meets n.known fine.holds lo hi t) (λ c holds. by (within lo hi (tree_value v t)) c holds) where
        by : (b : Bool) (c : CaseTree) → tree_value v c ≡ truth b
            → Gives (note base faults.RangeOutside always c n >>= λ m. renewed base m.known t >>= λ r. Some (record { tree = r; noted = m })) (Reaches v (λ (w : Valued). w.noted) (HasValue v) (cond b (Ok (tree_value v t)) (Err faults.RangeOutside)))
        by true c holds =
            let Q : Valued → Type 0 = Reaches v (λ (w : Valued). w.noted) (HasValue v) (Ok (tree_value v t)) in
            then_gives (Fine v) Q (note base faults.RangeOutside always c n) _ (note-fine v base meets faults.RangeOutside always c n fine (inr holds)) (λ m k.
            then_gives (Has v (tree_value v t)) Q (renewed base m.known t) _ (renewed-value v base meets m.known k.holds t) (λ r is. gives_some Q _ (k, is)))
        by false c holds =
            let Q : Valued → Type 0 = Reaches v (λ (w : Valued). w.noted) (HasValue v) (Err faults.RangeOutside) in
            then_gives (FailedIn v faults.RangeOutside) Q (note base faults.RangeOutside always c n) _ (note-fails v base meets faults.RangeOutside always c n fine (constant-value v base meets (pos 1)) holds) (λ m k.
            skip Q (renewed base m.known t) _ (λ r. gives_some Q _ k))

  pub kept-stopped : (x : Variable) (t : CaseTree) (f : FaultKind) (n : Noted) → FailedIn v f n → Gives (kept_tree base x t n) (λ (w : Valued). FailedIn v f w.noted)
  unfolding kept_tree
  kept-stopped x t f n failed =
      let Q : Valued → Type 0 = λ w. FailedIn v f w.noted in
      gives_cond Q (is_truth_kind x.kind) _ _ (λ truth. gives_some Q _ failed)
      (λ number. gives_cond Q x.clip _ _
      (λ clip. skip Q (at_most_tree base n.known t x.lo) _ (λ low. skip Q (choose base n.known low (number_tree x.lo) t) _ (λ u. skip Q (at_most_tree base n.known u x.hi) _ (λ fits. skip Q (choose base n.known fits u (number_tree x.hi)) _ (λ w. gives_some Q _ failed)))))
      (λ plain. range-stopped x.lo x.hi t f n failed))

  -- a truth value lies in its range; a range that is clipped isn't empty
  pub kept-value : (x : Variable) (t : CaseTree) (n : Noted) → Fine v n → int_le x.lo x.hi ≡ true → (is_truth_kind x.kind ≡ true → within x.lo x.hi (tree_value v t) ≡ true)
      → Gives (kept_tree base x t n) (Reaches v (λ (w : Valued). w.noted) (HasValue v) (kept x (tree_value v t)))
  unfolding kept_tree
  kept-value x t n fine some fits =
      let z = tree_value v t in
      let Q : Valued → Type 0 = Reaches v (λ (w : Valued). w.noted) (HasValue v) (kept x z) in
      let clips : Bool → Bool → OrFault ℤ = λ b clip. cond b (Ok z) (cond clip (Ok (cond (int_lt z x.lo) x.lo x.hi)) (Err faults.RangeOutside)) in
      gives_cond Q (is_truth_kind x.kind) _ _
      (λ is_truth. gives_some Q _ (subst (λ b. Reaches v (λ (w : Valued). w.noted) (HasValue v) (clips b x.clip) (record { tree = t; noted = n })) (sym (fits is_truth)) (fine, refl)))
      (λ number. gives_cond Q x.clip _ _
      (λ clip. subst (λ b. Gives (clipped base x.lo x.hi t n) (Reaches v (λ (w : Valued). w.noted) (HasValue v) (clips (within x.lo x.hi z) b))) (sym clip)
      (subst (λ r. Gives (clipped base x.lo x.hi t n) (Reaches v (λ (w : Valued). w.noted) (HasValue v) r)) (both_ok (within x.lo x.hi z) z (cond (int_lt z x.lo) x.lo x.hi)) (clipped-value x.lo x.hi some t n fine)))
      (λ plain. subst (λ b. Gives (range_checked base x.lo x.hi t n) (Reaches v (λ (w : Valued). w.noted) (HasValue v) (clips (within x.lo x.hi z) b))) (sym plain) (range-value x.lo x.hi t n fine))) where
        both_ok : (b : Bool) (x y : ℤ) → (let r : OrFault ℤ = Ok (cond b x y) in r) ≡ cond b (Ok x) (Ok y)
        both_ok true x y = refl
        both_ok false x y = refl

  -- ---- several

  module _ (g : EventGraph) where
    pub all_kept-stopped : (qs : List PlaceTree) (ts : List CaseTree) (f : FaultKind) (n : Noted) → FailedIn v f n → Gives (all_kept g base qs ts n) (λ (w : TreesMade). FailedIn v f w.noted)
    unfolding all_kept
    all_kept-stopped [] ts f n failed = gives_some _ _ failed
    all_kept-stopped (q ∷ qs) [] f n failed = gives_some _ _ failed
    all_kept-stopped (q ∷ qs) (t ∷ ts) f n failed =
        let Q : TreesMade → Type 0 = λ w. FailedIn v f w.noted in
        then_gives (λ (w : Valued). FailedIn v f w.noted) Q (kept_tree base (variable_at g q.variable) t n) _ (kept-stopped (variable_at g q.variable) t f n failed)
        (λ w failed. then_gives Q Q (all_kept g base qs ts w.noted) _ (all_kept-stopped qs ts f w.noted failed) (λ ws failed. gives_some Q _ failed))

    module _ (ranges : (i : ℕ) → int_le (variable_at g i).lo (variable_at g i).hi ≡ true) where
      pub all_kept-reached : (ps : List Place) (qs : List PlaceTree) → PlacesAre v g ps qs → (ts : List CaseTree) → TreesFit v g qs ts → (n : Noted) → Fine v n
          → Gives (all_kept g base qs ts n) (Reaches v (λ (w : TreesMade). w.noted) (KeptAre v g) (run.each (kept_at g) (zip ps (map (tree_value v) ts))))
      unfolding all_kept
      all_kept-reached [] [] are ts fit n fine = gives_some _ _ (fine, refl)
      all_kept-reached [] (q ∷ qs) are ts fit n fine = absurd are
      all_kept-reached (p ∷ ps) [] are ts fit n fine = absurd are
      all_kept-reached (p ∷ ps) (q ∷ qs) are [] fit n fine = gives_some _ _ (fine, refl)
      all_kept-reached (p ∷ ps) (q ∷ qs) (is, are) (t ∷ ts) (fits, fit) n fine =
          reach v (λ (w : Valued). w.noted) (λ (w : TreesMade). w.noted) (HasValue v) (KeptAre v g) (kept_tree base (variable_at g q.variable) t n) _ (kept_at g (p, tree_value v t)) _
          (subst (λ i. Gives (kept_tree base (variable_at g q.variable) t n) (Reaches v (λ (w : Valued). w.noted) (HasValue v) (kept (variable_at g i) (tree_value v t)))) (sym is.variable) (kept-value (variable_at g q.variable) t n fine (ranges q.variable) fits))
          (λ w f failed. then_gives (λ (w : TreesMade). FailedIn v f w.noted) (λ (w : TreesMade). FailedIn v f w.noted) (all_kept g base qs ts w.noted) _ (all_kept-stopped qs ts f w.noted failed) (λ ws f. gives_some _ _ f))
          (λ w y at_y fine is_y. reach v (λ (w : TreesMade). w.noted) (λ (w : TreesMade). w.noted) (KeptAre v g) (KeptAre v g) (all_kept g base qs ts w.noted) _ (run.each (kept_at g) (zip ps (map (tree_value v) ts))) _ (all_kept-reached ps qs are ts fit w.noted fine)
          (λ ws f failed. gives_some _ _ failed)
          (λ ws ys at_ys fine are_ys. gives_some _ _ (fine, ap₂ (λ y ys. y ∷ ys) is_y are_ys)))
