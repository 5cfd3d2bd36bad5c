-- The ranges that are left of a model's variables, and those that were there before they were replaced.
use Rattle.std.specs.Prelude.{◌≡◌, List, [], ◌∷◌, length, take, drop, slice_set}
use Rattle.model_core.specs.EventGraph.{Variable}
use Rattle.model_core.specs.Code.Views.{graph_of}
use Rattle.range_infer.specs.declared.ranges_left.RangesLeft.{RangesLeft}
use Rattle.range_infer.specs.declared.replaced_range.ReplacedRange.{ReplacedRange}
use Rattle.model_core.specs.declared.var_range.VarRange.{VarRange}
use Rattle.model_core.specs.Ranges.OtherRanges.{with_ranges}

-- the variables with the ranges that are left
abbrev pub variables_left : RangesLeft → List Variable
variables_left l = with_ranges (graph_of l.model.now).variables l.ranges.items

-- ranges with the replaced ones back in their places, the last one first
abbrev pub put_back : List VarRange → List ReplacedRange → List VarRange
put_back ranges [] = ranges
put_back ranges (r ∷ replaced) = slice_set (put_back ranges replaced) r.var r.range

-- the same ranges are left, and the same ones are replaced
pub record StaysLeft (old new : RangesLeft) : Type 0 where
  pub model : new.model.now ≡ old.model.now
  pub ranges : new.ranges.items ≡ old.ranges.items
  pub replaced : new.replaced.items ≡ old.replaced.items

-- what was replaced since leads back
pub record RestoresTo (old new : RangesLeft) : Type 0 where
  pub model : new.model.now ≡ old.model.now
  pub before : take (length old.replaced.items) new.replaced.items ≡ old.replaced.items
  pub back : put_back new.ranges.items (drop (length old.replaced.items) new.replaced.items) ≡ old.ranges.items
