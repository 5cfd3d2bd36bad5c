-- Why a run can't be tallied: it can't begin.
use Rattle.std.specs.Prelude.{ℤ, List}
use Rattle.model_core.specs.EventGraph.{EventGraph}
use Rattle.run_control.specs.declared.begin_error.BeginError.{BeginError}
use Rattle.run_control.specs.declared.begin_error.BeginError.TheVariants as begins
use Rattle.run_control.specs.Beginning.{RefusesStart}
use Rattle.tally_report.specs.declared.tally_error.TallyError.{TallyError}
use Rattle.tally_report.specs.declared.tally_error.TallyError.TheVariants as errors

abbrev pub refusal_of : BeginError → TallyError
refusal_of (begins.StartCount needed given) = errors.StartCount needed given
refusal_of (begins.StartOutside place value) = errors.StartOutside place value
refusal_of begins.NoMemory = errors.NoMemory

-- the causes are those of a run that can't begin: memory is asked for after the starting values
abbrev pub RefusesTally : EventGraph → List ℤ → TallyError → Type 0
RefusesTally g starts (errors.StartCount needed given) = RefusesStart g starts (begins.StartCount needed given)
RefusesTally g starts (errors.StartOutside place value) = RefusesStart g starts (begins.StartOutside place value)
RefusesTally g starts errors.NoMemory = RefusesStart g starts begins.NoMemory
