-- What is shown of a run, by what was written of it.
use Rattle.std.specs.Prelude.{◌≡◌, ℕ, ◌-◌, List, ◌++◌, take, length, codes, decimal}
use Rattle.watch_trace.specs.declared.outcome.Outcome.{Outcome}
use Rattle.watch_trace.specs.declared.outcome.Outcome.TheVariants as outcomes

-- by outcome: all that was written, without the line of a spent budget; where it wasn't followed on there is nothing to show
abbrev pub IsShownOf : Outcome → ℕ → List ℕ → List ℕ → Type 0
IsShownOf outcomes.WriteFault events written text = ⊥
IsShownOf outcomes.NoMemory events written text = ⊥
IsShownOf outcomes.Budget events written text = text ≡ take (length written - length (codes "budget " ++ decimal events ++ codes "\n")) written
IsShownOf outcome events written text = text ≡ written
