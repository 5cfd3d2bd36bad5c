-- Models that mean the same: they declare the same, and all looks at their runs are the same, whatever number of steps each look
-- takes. As `Same`, but for the steps, so neither model comes first.
use Rattle.std.specs.Prelude.{◌≡◌, ℕ, ◌^◌, ◌<◌, ◌≤◌, ℤ, IsTrue, List}
use Rattle.model_core.specs.EventGraph.{EventGraph}
use Rattle.model_core.specs.Run.Machine.{Look, finished}
use Rattle.model_core.specs.Run.History.{allowed, look}
use Rattle.model_core.specs.Run.Same.{Begins}
use Rattle.alike_laws.specs.DeclaredAlike.{DeclaredAlike}

-- what is seen of the first machine is seen of the second
pub record ShownBy (first second : ℕ → Look) : Type 0 where
  -- where the first is finished, the second is seen so
  pub finishes : (n : ℕ) → IsTrue (finished (first n).standing) → (m : ℕ) × (second m ≡ first n)
  -- what the first shows, the second shows
  pub shows : (n : ℕ) → (m : ℕ) × Begins (first n).history (second m).history

-- what is seen of either machine is seen of the other
pub record AlikeLooks (first second : ℕ → Look) : Type 0 where
  pub forth : ShownBy first second
  pub back : ShownBy second first

-- two models, for every seed, allowed starting values and stop time
pub record AreAlike (g h : EventGraph) : Type 0 where
  pub declared : DeclaredAlike g h
  pub runs : (seed : ℕ) → seed < 2 ^ 64 → (starts : List ℤ) → IsTrue (allowed g starts) → (until : ℕ) → until ≤ 2 ^ 48 → AlikeLooks (λ n. look g seed starts until n) (λ n. look h seed starts until n)
