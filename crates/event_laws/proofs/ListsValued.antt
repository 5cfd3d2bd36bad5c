-- The trees of several expressions have their values, from left to right.
use Rattle.std.proofs.Common.{◌≡◌, ℕ, ℤ, pos, List, [], ◌∷◌, map, refl, ap₂}
use Rattle.std.specs.List.{AllByRecursion}
use Rattle.sig_base.specs.declared.fault.FaultKind.{FaultKind}
use Rattle.model_core.specs.EventGraph.{EventGraph, Expression}
use Rattle.model_core.specs.Run.State.{State}
use Rattle.model_core.specs.Run.Value.{value_of}
use Rattle.model_core.specs.Run.Value as run
use Rattle.tree_laws.specs.SumValues.{Valuation}
use Rattle.tree_laws.specs.SumEnds.{Ground}
use Rattle.tree_laws.specs.Meaning.{Meets}
use Rattle.tree_laws.specs.Trees.{CaseTree, tree_value}
use Rattle.tree_laws.specs.Valued.{Noted, Valued, SoFar, valued}
use Rattle.tree_laws.specs.ChecksHold.{Fine, FailedIn}
use Rattle.tree_laws.specs.ValuesAgree.{Agrees, TruthsWhereAsked}
use Rattle.tree_laws.proofs.Gives.{Gives, gives_some, then_gives, gives_weaker}
use Rattle.tree_laws.proofs.ValuedTrees.{valued-busy, valued-idle}
use Rattle.tree_laws.proofs.StoppedTrees.{expression-stopped}
use Rattle.event_laws.specs.Making.{TreesMade}
use Rattle.event_laws.specs.ChangesMade.{all_valued}
use Rattle.event_laws.proofs.ReachedTogether.{Reaches, reach, HasValue, outcome_reached}

module _ (v : Valuation) (base : Ground) (meets : Meets base v) (g : EventGraph) (so_far : SoFar) (f : FaultKind) where
  pub all-stopped : (es : List Expression) (guard : CaseTree) (n : Noted) → FailedIn v f n → Gives (all_valued g base so_far guard es n) (λ (w : TreesMade). FailedIn v f w.noted)
  unfolding all_valued
  all-stopped [] guard n failed = gives_some _ _ failed
  all-stopped (e ∷ es) guard n failed =
      let Q : TreesMade → Type 0 = λ w. FailedIn v f w.noted in
      then_gives (λ (w : Valued). FailedIn v f w.noted) Q (valued base g so_far e guard n) _ (expression-stopped v base meets g so_far f e guard n failed)
      (λ w failed. then_gives Q Q (all_valued g base so_far guard es w.noted) _ (all-stopped es guard w.noted failed) (λ ws failed. gives_some Q _ failed))

module _ (v : Valuation) (base : Ground) (meets : Meets base v) (g : EventGraph) (s : State) (clk : ℕ) (so_far : SoFar) (agrees : Agrees v g s clk so_far) where
  -- trees with these values
  abbrev pub HaveValues : List ℤ → TreesMade → Type 0
  HaveValues xs w = map (tree_value v) w.trees ≡ xs

  pub expression-idle : (e : Expression) → TruthsWhereAsked g s clk e → (guard : CaseTree) (n : Noted) → Fine v n → tree_value v guard ≡ pos 0 → Gives (valued base g so_far e guard n) (λ (w : Valued). Fine v w.noted)
  expression-idle e asks guard n fine zero = record { gives = λ w is. valued-idle v base meets g s clk so_far agrees e asks guard n fine zero w is }

  pub expression-reached : (e : Expression) → TruthsWhereAsked g s clk e → (guard : CaseTree) (n : Noted) → Fine v n → tree_value v guard ≡ pos 1 → Gives (valued base g so_far e guard n) (Reaches v (λ (w : Valued). w.noted) (HasValue v) (value_of g s clk e))
  expression-reached e asks guard n fine one =
      gives_weaker (Reaches v (λ (w : Valued). w.noted) (HasValue v) (value_of g s clk e)) _ (valued-busy v base meets g s clk so_far agrees e asks guard n fine one) (λ w out. outcome_reached v (value_of g s clk e) w out)

  pub all-idle : (es : List Expression) → AllByRecursion (TruthsWhereAsked g s clk) es → (guard : CaseTree) (n : Noted) → Fine v n → tree_value v guard ≡ pos 0 → Gives (all_valued g base so_far guard es n) (λ (w : TreesMade). Fine v w.noted)
  unfolding all_valued
  all-idle [] asks guard n fine zero = gives_some _ _ fine
  all-idle (e ∷ es) (ask, asks) guard n fine zero =
      let Q : TreesMade → Type 0 = λ w. Fine v w.noted in
      then_gives (λ (w : Valued). Fine v w.noted) Q (valued base g so_far e guard n) _ (expression-idle e ask guard n fine zero)
      (λ w fine. then_gives Q Q (all_valued g base so_far guard es w.noted) _ (all-idle es asks guard w.noted fine zero) (λ ws fine. gives_some Q _ fine))

  pub all-reached : (es : List Expression) → AllByRecursion (TruthsWhereAsked g s clk) es → (guard : CaseTree) (n : Noted) → Fine v n → tree_value v guard ≡ pos 1 → Gives (all_valued g base so_far guard es n) (Reaches v (λ (w : TreesMade). w.noted) HaveValues (run.each (value_of g s clk) es))
  unfolding all_valued
  all-reached [] asks guard n fine one = gives_some _ _ (fine, refl)
  all-reached (e ∷ es) (ask, asks) guard n fine one =
      reach v (λ (w : Valued). w.noted) (λ (w : TreesMade). w.noted) (HasValue v) HaveValues (valued base g so_far e guard n) _ (value_of g s clk e) _ (expression-reached e ask guard n fine one)
      (λ w f failed. then_gives (λ (w : TreesMade). FailedIn v f w.noted) (λ (w : TreesMade). FailedIn v f w.noted) (all_valued g base so_far guard es w.noted) _ (all-stopped v base meets g so_far f es guard w.noted failed) (λ ws failed. gives_some _ _ failed))
      (λ w x at_x fine is. reach v (λ (w : TreesMade). w.noted) (λ (w : TreesMade). w.noted) HaveValues HaveValues (all_valued g base so_far guard es w.noted) _ (run.each (value_of g s clk) es) _ (all-reached es asks guard w.noted fine one)
      (λ ws f failed. gives_some _ _ failed)
      (λ ws xs at_xs fine are. gives_some _ _ (fine, ap₂ (λ y ys. y ∷ ys) is are)))
