-- When all checks pass, and when one is the first that fails.
use Rattle.std.specs.Prelude.{◌≡◌, ℤ, pos, List, [], ◌∷◌, Ok, Err}
use mathlib.Core.Logic.{◌⊎◌}
use Rattle.sig_base.specs.declared.fault.FaultKind.{FaultKind}
use Rattle.model_core.specs.Run.Value.{OrFault}
use Rattle.tree_laws.specs.SumValues.{Valuation}
use Rattle.tree_laws.specs.Meaning.{Holds}
use Rattle.tree_laws.specs.Trees.{tree_value}
use Rattle.tree_laws.specs.Valued.{Check, Noted, Valued}

module _ (v : Valuation) where
  -- all checks pass
  unfoldable pub Pass : List Check → Type 0
  Pass [] = Unit {0}
  Pass (it ∷ older) = (tree_value v it.tree ≡ pos 1) × Pass older

  -- this one fails, and those before it pass
  pub record IsFirstFailed (f : FaultKind) (it : Check) (older : List Check) : Type 0 where
    pub kind : it.kind ≡ f
    pub fails : tree_value v it.tree ≡ pos 0
    pub others : Pass older

  -- the first check, in order, that fails is of this kind
  unfoldable pub Failed : FaultKind → List Check → Type 0
  Failed f [] = ⊥
  Failed f (it ∷ older) = IsFirstFailed f it older ⊎ Failed f older

  -- what is known holds, and all checks pass
  pub record Fine (n : Noted) : Type 0 where
    pub holds : Holds v n.known
    pub passes : Pass n.checks

  unfoldable pub FailedIn : FaultKind → Noted → Type 0
  FailedIn f n = Failed f n.checks

  -- a value, and all is fine; or a fault, and its check is the first that fails
  unfoldable pub Outcome : OrFault ℤ → Valued → Type 0
  Outcome (Ok x) w = Fine w.noted × (tree_value v w.tree ≡ x)
  Outcome (Err f) w = FailedIn f w.noted

  unfoldable pub FineAfter : Valued → Type 0
  FineAfter w = Fine w.noted

  unfoldable pub FailedAfter : FaultKind → Valued → Type 0
  FailedAfter f w = FailedIn f w.noted
