-- Two chains of steps side by side, one of a run and one of trees: both go on, or the check fails that is the fault.
use Rattle.std.proofs.Common.{◌≡◌, ℤ, Option, Ok, Err, refl}
use Rattle.sig_base.specs.declared.fault.FaultKind.{FaultKind}
use Rattle.model_core.specs.Run.Value.{OrFault}
use Rattle.model_core.specs.Run.Value as run
use Rattle.tree_laws.specs.SumValues.{Valuation}
use Rattle.tree_laws.specs.Limits.{◌>>=◌}
use Rattle.tree_laws.specs.Valued.{Noted, Valued}
use Rattle.tree_laws.specs.Trees.{tree_value}
use Rattle.tree_laws.specs.ChecksHold.{Fine, FailedIn, Outcome}
use Rattle.tree_laws.proofs.Gives.{Gives, then_gives}

module _ (v : Valuation) where
  -- related results and no failed check, or a fault and its check
  abbrev pub Reaches : {A B : Type 0} → (B → Noted) → (A → B → Type 0) → OrFault A → B → Type 0
  Reaches noted R (Ok a) b = Fine v (noted b) × R a b
  Reaches noted R (Err f) b = FailedIn v f (noted b)

  -- one step, and what follows it
  pub reach : {A B C D : Type 0} (first : B → Noted) (last : D → Noted) (R : A → B → Type 0) (S : C → D → Type 0) (o : Option B) (next : B → Option D) (r : OrFault A) (h : A → OrFault C)
      → Gives o (Reaches first R r)
      → ((b : B) (f : FaultKind) → FailedIn v f (first b) → Gives (next b) (λ d. FailedIn v f (last d)))
      → ((b : B) (a : A) → r ≡ Ok a → Fine v (first b) → R a b → Gives (next b) (Reaches last S (h a)))
      → Gives (o >>= next) (Reaches last S (run.◌>>=◌ r h))
  reach {A} {B} {C} {D} first last R S o next r h reached stop go = then_gives (Reaches first R r) (Reaches last S (run.◌>>=◌ r h)) o next reached (λ b done. by r refl b done) where
    by : (q : OrFault A) → r ≡ q → (b : B) → Reaches first R q b → Gives (next b) (Reaches last S (run.◌>>=◌ q h))
    by (Ok a) e b (fine, is) = go b a e fine is
    by (Err f) e b failed = stop b f failed

  -- the same, where something else is known of the step
  pub reach_known : {A B C D : Type 0} (K : B → Type 0) (first : B → Noted) (last : D → Noted) (R : A → B → Type 0) (S : C → D → Type 0) (o : Option B) (next : B → Option D) (r : OrFault A) (h : A → OrFault C)
      → Gives o K
      → Gives o (Reaches first R r)
      → ((b : B) (f : FaultKind) → K b → FailedIn v f (first b) → Gives (next b) (λ d. FailedIn v f (last d)))
      → ((b : B) (a : A) → K b → Fine v (first b) → R a b → Gives (next b) (Reaches last S (h a)))
      → Gives (o >>= next) (Reaches last S (run.◌>>=◌ r h))
  reach_known {A} {B} {C} {D} K first last R S o next r h known reached stop go =
      then_gives (λ b. K b × Reaches first R r b) (Reaches last S (run.◌>>=◌ r h)) o next (record { gives = λ b e. (known.gives b e, reached.gives b e) }) (λ b both. by r b both.0 both.1) where
        by : (q : OrFault A) → (b : B) → K b → Reaches first R q b → Gives (next b) (Reaches last S (run.◌>>=◌ q h))
        by (Ok a) b k (fine, is) = go b a k fine is
        by (Err f) b k failed = stop b f k failed

  -- a tree with the value of an expression
  abbrev pub HasValue : ℤ → Valued → Type 0
  HasValue x w = tree_value v w.tree ≡ x

  pub outcome_reached : (r : OrFault ℤ) (w : Valued) → Outcome v r w → Reaches (λ (w : Valued). w.noted) HasValue r w
  unfolding Outcome
  outcome_reached (Ok x) w done = done
  outcome_reached (Err f) w failed = failed
