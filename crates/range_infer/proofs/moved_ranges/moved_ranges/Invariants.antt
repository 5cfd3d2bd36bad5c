use Rattle.std.proofs.Common.{◌≡◌, ◌↔◌, ℕ, ◌<◌, false, length}
use Rattle.model_core.specs.Ranges.OtherRanges.{range_at}
use Rattle.range_infer.specs.Inner.Moved.{is_moved}
use Rattle.range_infer.proofs.moved_ranges.moved_ranges.Given as goal

abbrev pub invariant-loop-place : goal.invariant-loop-place
invariant-loop-place l = record {
  many : length l.moved.items ≡ l.place;
  marks : (v : ℕ) → v < l.place → (is_moved l.moved.items v ≡ false) ↔ (range_at l.old v ≡ range_at l.new v);
}
