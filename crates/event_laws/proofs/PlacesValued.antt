-- The places of stores: their indexes have their values, or the check of an index fails.
use Rattle.std.proofs.Common.{◌≡◌, ℕ, ◌<◌, nat_lt, ℤ, pos, negsuc, ◌-ℤ◌, Bool, true, false, cond, List, [], ◌∷◌, length, Option, Some, None, Ok, Err, inr, refl, ap, ◌∙◌, arith}
use Rattle.std.specs.List.{AllByRecursion}
use Rattle.std.proofs.lemmas.Int.{ints}
use Rattle.std.proofs.lemmas.Bool.{ltb-true}
use Rattle.sig_base.specs.declared.fault.FaultKind.{FaultKind}
use Rattle.sig_base.specs.declared.fault.FaultKind.TheVariants as faults
use Rattle.model_core.specs.EventGraph.{EventGraph, Expression, Location}
use Rattle.model_core.specs.Run.State.{State, Place, variable_at, within}
use Rattle.model_core.specs.Run.Value.{OrFault, indexed, value_of, place_at, place_of}
use Rattle.model_core.specs.Run.Value as run
use Rattle.tree_laws.specs.SumValues.{Valuation}
use Rattle.tree_laws.specs.Limits.{◌>>=◌}
use Rattle.tree_laws.specs.SumEnds.{Ground}
use Rattle.tree_laws.specs.Meaning.{Meets}
use Rattle.tree_laws.specs.Trees.{CaseTree, tree_value}
use Rattle.tree_laws.specs.TreeConditions.{between_tree}
use Rattle.tree_laws.specs.Valued.{Noted, Valued, SoFar, note, valued}
use Rattle.tree_laws.specs.ChecksHold.{Fine, FailedIn}
use Rattle.tree_laws.specs.ValuesAgree.{Agrees}
use Rattle.tree_laws.proofs.Gives.{Gives, gives_some, then_gives}
use Rattle.tree_laws.proofs.CasesOfTrees.{Has}
use Rattle.tree_laws.proofs.ConditionTrees.{truth, constant-value, between-value}
use Rattle.tree_laws.proofs.NotedChecks.{skip, note-failed, note-fine, note-fails}
use Rattle.tree_laws.proofs.StoppedTrees.{expression-stopped}
use Rattle.event_laws.specs.ChangesMade.{always, PlaceTree, PlaceMade, PlacesMade, placed_at, placed, all_placed}
use Rattle.event_laws.specs.ChangesFit.{IndexFits, LocationFits}
use Rattle.event_laws.proofs.ReachedTogether.{Reaches, reach, HasValue}
use Rattle.event_laws.proofs.ListsValued.{expression-reached}

index_test : (size j : ℕ) → within (pos 0) (pos size -ℤ pos 1) (pos j) ≡ nat_lt j size
index_test size j = grind (arith, ints)

below_zero : (size j : ℕ) → within (pos 0) (pos size -ℤ pos 1) (negsuc j) ≡ false
below_zero size j = refl

-- ---- a place and its tree

-- a scalar has cell 0, and an array that of its index
abbrev pub IndexIs : Valuation → EventGraph → Place → Option CaseTree → Type 0
IndexIs v g p None = (p.index ≡ 0) × ((variable_at g p.variable).size ≡ 0)
IndexIs v g p (Some a) = (tree_value v a ≡ pos p.index) × (p.index < (variable_at g p.variable).size)

pub record PlaceIs (v : Valuation) (g : EventGraph) (p : Place) (q : PlaceTree) : Type 0 where
  pub variable : p.variable ≡ q.variable
  pub declared : p.variable < length g.variables
  pub index : IndexIs v g p q.index

-- the same for lists of places
abbrev pub PlacesAre : Valuation → EventGraph → List Place → List PlaceTree → Type 0
PlacesAre v g [] [] = Unit {0}
PlacesAre v g [] (q ∷ qs) = ⊥
PlacesAre v g (p ∷ ps) [] = ⊥
PlacesAre v g (p ∷ ps) (q ∷ qs) = PlaceIs v g p q × PlacesAre v g ps qs

module _ (v : Valuation) (base : Ground) (meets : Meets base v) (g : EventGraph) (so_far : SoFar) (f : FaultKind) where
  place_at-stopped : (i : ℕ) (index : Option Expression) (n : Noted) → FailedIn v f n → Gives (placed_at g base so_far i index n) (λ (w : PlaceMade). FailedIn v f w.noted)
  place_at-stopped i None n failed = gives_some _ _ failed
  place_at-stopped i (Some e) n failed =
      let Q : PlaceMade → Type 0 = λ w. FailedIn v f w.noted in
      then_gives (λ (w : Valued). FailedIn v f w.noted) Q (valued base g so_far e always n) _ (expression-stopped v base meets g so_far f e always n failed)
      (λ a failed. skip Q (between_tree base a.noted.known a.tree (pos 0) (pos (variable_at g i).size -ℤ pos 1)) _ (λ c.
      then_gives (FailedIn v f) Q (note base faults.IndexOutside always c a.noted) _ (note-failed v base meets f faults.IndexOutside always c a.noted failed) (λ m k. gives_some Q _ k)))

  pub place-stopped : (l : Location) (n : Noted) → FailedIn v f n → Gives (placed g base so_far l n) (λ (w : PlaceMade). FailedIn v f w.noted)
  unfolding placed
  place-stopped l n failed = place_at-stopped l.variable l.index n failed

  pub places-stopped : (ls : List Location) (n : Noted) → FailedIn v f n → Gives (all_placed g base so_far ls n) (λ (w : PlacesMade). FailedIn v f w.noted)
  unfolding all_placed
  places-stopped [] n failed = gives_some _ _ failed
  places-stopped (l ∷ ls) n failed =
      let Q : PlacesMade → Type 0 = λ w. FailedIn v f w.noted in
      then_gives (λ (w : PlaceMade). FailedIn v f w.noted) Q (placed g base so_far l n) _ (place-stopped l n failed)
      (λ p failed. then_gives Q Q (all_placed g base so_far ls p.noted) _ (places-stopped ls p.noted failed) (λ ps failed. gives_some Q _ failed))

module _ (v : Valuation) (base : Ground) (meets : Meets base v) (g : EventGraph) (s : State) (clk : ℕ) (so_far : SoFar) (agrees : Agrees v g s clk so_far) where
  abbrev pub PlaceHas : Place → PlaceMade → Type 0
  PlaceHas p w = PlaceIs v g p w.place

  abbrev pub PlacesHave : List Place → PlacesMade → Type 0
  PlacesHave ps w = PlacesAre v g ps w.places

  always_one : tree_value v always ≡ pos 1
  always_one = constant-value v base meets (pos 1)

  -- the index of a place once its value is known
  indexed_after : (i : ℕ) → i < length g.variables → (a : Valued) (x : ℤ) → Fine v a.noted → tree_value v a.tree ≡ x → (c : CaseTree) → tree_value v c ≡ truth (within (pos 0) (pos (variable_at g i).size -ℤ pos 1) x)
      → Gives (note base faults.IndexOutside always c a.noted >>= λ m. Some (record { place = record { variable = i; index = Some a.tree }; noted = m })) (Reaches v (λ (w : PlaceMade). w.noted) PlaceHas (indexed g i x))
  indexed_after i there a (pos j) fine is c holds = by (nat_lt j (variable_at g i).size) refl (holds ∙ ap truth (index_test (variable_at g i).size j)) where
    by : (b : Bool) → nat_lt j (variable_at g i).size ≡ b → tree_value v c ≡ truth b
        → Gives (note base faults.IndexOutside always c a.noted >>= λ m. Some (record { place = record { variable = i; index = Some a.tree }; noted = m })) (Reaches v (λ (w : PlaceMade). w.noted) PlaceHas (cond b (Ok (record { variable = i; index = j })) (Err faults.IndexOutside)))
    by true e h =
        let Q : PlaceMade → Type 0 = Reaches v (λ (w : PlaceMade). w.noted) PlaceHas (Ok (record { variable = i; index = j })) in
        then_gives (Fine v) Q (note base faults.IndexOutside always c a.noted) _ (note-fine v base meets faults.IndexOutside always c a.noted fine (inr h))
        (λ m k. gives_some Q _ (k, record { variable = refl; declared = there; index = (is, ltb-true j (variable_at g i).size e) }))
    by false e h =
        let Q : PlaceMade → Type 0 = Reaches v (λ (w : PlaceMade). w.noted) PlaceHas (Err faults.IndexOutside) in
        then_gives (FailedIn v faults.IndexOutside) Q (note base faults.IndexOutside always c a.noted) _ (note-fails v base meets faults.IndexOutside always c a.noted fine always_one h) (λ m k. gives_some Q _ k)
  indexed_after i there a (negsuc j) fine is c holds =
      let Q : PlaceMade → Type 0 = Reaches v (λ (w : PlaceMade). w.noted) PlaceHas (Err faults.IndexOutside) in
      then_gives (FailedIn v faults.IndexOutside) Q (note base faults.IndexOutside always c a.noted) _ (note-fails v base meets faults.IndexOutside always c a.noted fine always_one (holds ∙ ap truth (below_zero (variable_at g i).size j))) (λ m k. gives_some Q _ k)

  place_at-reached : (i : ℕ) (index : Option Expression) → i < length g.variables → IndexFits g s clk i index → (n : Noted) → Fine v n → Gives (placed_at g base so_far i index n) (Reaches v (λ (w : PlaceMade). w.noted) PlaceHas (place_at g s clk i index))
  place_at-reached i None there fits n fine = gives_some _ _ (fine, record { variable = refl; declared = there; index = (refl, fits) })
  place_at-reached i (Some e) there fits n fine =
      reach v (λ (w : Valued). w.noted) (λ (w : PlaceMade). w.noted) (HasValue v) PlaceHas (valued base g so_far e always n) _ (value_of g s clk e) (indexed g i) (expression-reached v base meets g s clk so_far agrees e fits always n fine always_one)
      (λ a f failed. index-stopped i a f failed)
      (λ a x at_x fine is. then_gives (Has v (truth (within (pos 0) (pos (variable_at g i).size -ℤ pos 1) (tree_value v a.tree)))) (Reaches v (λ (w : PlaceMade). w.noted) PlaceHas (indexed g i x)) (between_tree base a.noted.known a.tree (pos 0) (pos (variable_at g i).size -ℤ pos 1)) _
      (between-value v base meets a.noted.known fine.holds (pos 0) (pos (variable_at g i).size -ℤ pos 1) a.tree)
      (λ c holds. indexed_after i there a x fine is c (holds ∙ ap (λ y. truth (within (pos 0) (pos (variable_at g i).size -ℤ pos 1) y)) is))) where
        index-stopped : (i : ℕ) (a : Valued) (f : FaultKind) → FailedIn v f a.noted
            → Gives (between_tree base a.noted.known a.tree (pos 0) (pos (variable_at g i).size -ℤ pos 1) >>= λ c. note base faults.IndexOutside always c a.noted >>= λ m. Some (record { place = record { variable = i; index = Some a.tree }; noted = m })) (λ (w : PlaceMade). FailedIn v f w.noted)
        index-stopped i a f failed =
            let Q : PlaceMade → Type 0 = λ w. FailedIn v f w.noted in
            skip Q (between_tree base a.noted.known a.tree (pos 0) (pos (variable_at g i).size -ℤ pos 1)) _ (λ c.
            then_gives (FailedIn v f) Q (note base faults.IndexOutside always c a.noted) _ (note-failed v base meets f faults.IndexOutside always c a.noted failed) (λ m k. gives_some Q _ k))

  pub place-reached : (l : Location) → LocationFits g s clk l → (n : Noted) → Fine v n → Gives (placed g base so_far l n) (Reaches v (λ (w : PlaceMade). w.noted) PlaceHas (place_of g s clk l))
  unfolding placed
  place-reached l fits n fine = place_at-reached l.variable l.index fits.0 fits.1 n fine

  pub places-reached : (ls : List Location) → AllByRecursion (LocationFits g s clk) ls → (n : Noted) → Fine v n → Gives (all_placed g base so_far ls n) (Reaches v (λ (w : PlacesMade). w.noted) PlacesHave (run.each (place_of g s clk) ls))
  unfolding all_placed
  places-reached [] fits n fine = gives_some _ _ (fine, tt)
  places-reached (l ∷ ls) (fit, fits) n fine =
      reach v (λ (w : PlaceMade). w.noted) (λ (w : PlacesMade). w.noted) PlaceHas PlacesHave (placed g base so_far l n) _ (place_of g s clk l) _ (place-reached l fit n fine)
      (λ p f failed. then_gives (λ (w : PlacesMade). FailedIn v f w.noted) (λ (w : PlacesMade). FailedIn v f w.noted) (all_placed g base so_far ls p.noted) _ (places-stopped v base meets g so_far f ls p.noted failed) (λ ps failed. gives_some _ _ failed))
      (λ p x at_x fine is. reach v (λ (w : PlacesMade). w.noted) (λ (w : PlacesMade). w.noted) PlacesHave PlacesHave (all_placed g base so_far ls p.noted) _ (run.each (place_of g s clk) ls) _ (places-reached ls fits p.noted fine)
      (λ ps f failed. gives_some _ _ failed)
      (λ ps xs at_xs fine are. gives_some _ _ (fine, (is, are))))
