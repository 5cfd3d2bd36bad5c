-- Starting values that are taken aren't refused.
use Rattle.std.proofs.Common.{◌≡◌, ℕ, ℤ, List, Option, Some, None, IsTrue, refl, sym, ◌∙◌}
use Rattle.alike_laws.proofs.AllowedStarts.{same_allowed}
use Rattle.alike_laws.specs.DeclaredAlike.{DeclaredAlike}
use Rattle.model_core.specs.EventGraph.{EventGraph}
use Rattle.model_core.specs.Run.History.{allowed}
use Rattle.run_control.specs.declared.begin_error.BeginError.{BeginError}
use Rattle.run_control.specs.declared.begin_error.BeginError.TheVariants as errors
use Rattle.run_control.specs.Beginning.{RefusesStart}
use Rattle.job_answers.specs.StartingValues.{count_line, outside_line}
use Rattle.job_answers.specs.Inner.StartSteps.{IsRefusalLine}
use Rattle.job_answers.proofs.StartLaws.{taken_start, refused_start}

refused_not : (g : EventGraph) (starts : List ℤ) (error : BeginError) (line : List ℕ) → IsTrue (allowed g starts) → RefusesStart g starts error → IsRefusalLine error line → ⊥
refused_not g starts error line taken refuses is = let wrong : ◌≡◌ {A = Option (List ℕ)} (Some line) None = sym (refused_start g starts error line refuses is) ∙ taken_start g starts taken in cc

pub only_memory : (g : EventGraph) (starts : List ℤ) (error : BeginError) → IsTrue (allowed g starts) → RefusesStart g starts error → error ≡ errors.NoMemory
only_memory g starts (errors.StartCount needed given) taken refuses = absurd (refused_not g starts (errors.StartCount needed given) (count_line needed given) taken refuses refl)
only_memory g starts (errors.StartOutside place value) taken refuses = absurd (refused_not g starts (errors.StartOutside place value) (outside_line place value) taken refuses refl)
only_memory g starts errors.NoMemory taken refuses = refl

-- a model that declares the same takes the same starting values
pub second_takes : (g h : EventGraph) → DeclaredAlike g h → (starts : List ℤ) → IsTrue (allowed g starts) → IsTrue (allowed h starts)
second_takes g h declared starts taken = sym (same_allowed g h declared.started starts) ∙ taken
