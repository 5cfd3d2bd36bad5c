-- What a check of ranges says of them, and why ranges may not be declared.
use Rattle.std.specs.Prelude.{ℕ, ◌<◌, ◌≤◌, List, length}
use Rattle.sig_base.specs.declared.limits.TheConstants.{TEXT_MAX}
use Rattle.model_core.specs.declared.rule_error.RuleError.{RuleError}
use Rattle.model_core.specs.declared.rule_error.RuleError.TheVariants as errors
use Rattle.model_core.specs.EventGraph.{EventGraph}
use Rattle.model_core.specs.Text.Canonical.{canonical}
use Rattle.model_core.specs.declared.var_range.VarRange.{VarRange}
use Rattle.range_infer.specs.declared.range_verdict.RangeVerdict.{RangeVerdict}
use Rattle.range_infer.specs.declared.range_verdict.RangeVerdict.TheVariants as verdicts
use Rattle.model_core.specs.Ranges.OtherRanges.{model_with_ranges}
use Rattle.model_core.specs.Ranges.Inductive.{Fitting, Suffices, Inductive}

-- the first variable whose range doesn't suffice
pub record FailsFirst (g : EventGraph) (ranges : List VarRange) (v : ℕ) : Type 0 where
  pub fitting : Fitting g ranges
  pub variable : v < length g.variables
  pub fails : Suffices g ranges v → ⊥
  pub first : (w : ℕ) → w < v → Suffices g ranges w

-- what a verdict says of ranges
abbrev pub VerdictHolds : EventGraph → List VarRange → RangeVerdict → Type 0
VerdictHolds g ranges verdicts.Inductive = Fitting g ranges × Inductive g ranges
VerdictHolds g ranges verdicts.Unfit = Fitting g ranges → ⊥
VerdictHolds g ranges (verdicts.Fails v) = FailsFirst g ranges v

-- these ranges may be declared in a model
pub record MayNarrow (g : EventGraph) (ranges : List VarRange) : Type 0 where
  pub fitting : Fitting g ranges
  pub inductive : Inductive g ranges
  pub short : length (canonical (model_with_ranges g ranges)) ≤ TEXT_MAX

-- why they may not, by the first of three conditions that fails
pub data MayNotNarrow (g : EventGraph) (ranges : List VarRange) : ℕ → Type 0 where
  unfit : (Fitting g ranges → ⊥) → MayNotNarrow g ranges 1
  left : Fitting g ranges → (Inductive g ranges → ⊥) → MayNotNarrow g ranges 2
  too_long : Fitting g ranges → Inductive g ranges → TEXT_MAX < length (canonical (model_with_ranges g ranges)) → MayNotNarrow g ranges 3

-- running out of memory says nothing of them
abbrev pub NarrowRefused : EventGraph → List VarRange → RuleError → Type 0
NarrowRefused g ranges (errors.Refused condition) = MayNotNarrow g ranges condition
NarrowRefused g ranges errors.NoMemory = Unit {0}
