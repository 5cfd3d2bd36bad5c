use Rattle.std.proofs.Common.{◌≡◌, map, take, length}
use Rattle.model_core.specs.Code.Views.{variable_of}
use Rattle.model_core.specs.Ranges.OtherRanges.{with_ranges}
use Rattle.range_infer.proofs.narrowing.declare_all.Given as goal

abbrev pub invariant-loop-place : goal.invariant-loop-place
invariant-loop-place l = record {
  many : length l.vars.items ≡ length l.initial.vars.items;
  value : map variable_of l.vars.items ≡ with_ranges (map variable_of l.initial.vars.items) (take l.place l.ranges);
}
