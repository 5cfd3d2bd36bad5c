-- The model that declares the ranges that it needs.
use Rattle.std.specs.Prelude.{◌≡◌, nat_le, cond, List, length}
use Rattle.sig_base.specs.declared.limits.TheConstants.{TEXT_MAX}
use Rattle.model_core.specs.EventGraph.{EventGraph}
use Rattle.model_core.specs.Text.Canonical.{canonical}
use Rattle.model_core.specs.declared.var_range.VarRange.{VarRange}
use Rattle.model_core.specs.Ranges.OtherRanges.{model_with_ranges}
use Rattle.model_core.specs.Ranges.Inference.{IsInferred}

-- a model with these ranges declared, or as it is where its text would be too long
abbrev pub with_ranges_if_short : EventGraph → List VarRange → EventGraph
with_ranges_if_short g ranges = cond (nat_le (length (canonical (model_with_ranges g ranges))) TEXT_MAX) (model_with_ranges g ranges) g

-- the second model is the first with its inferred ranges declared, if its text isn't too long
pub record IsNarrowed (g h : EventGraph) : Type 0 where
  pub ranges : List VarRange
  pub inferred : IsInferred g ranges
  pub declared : with_ranges_if_short g ranges ≡ h
