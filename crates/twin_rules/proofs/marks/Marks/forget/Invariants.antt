use Rattle.std.proofs.Common.{◌≡◌, ℕ, false, length}
use Rattle.sig_base.specs.declared.limits.TheConstants.{VERTICES_MAX}
use Rattle.twin_rules.proofs.Marking.{MarkedSoFar}
use Rattle.twin_rules.proofs.marks.Marks.forget.Given as goal

abbrev pub invariant-loop-place : goal.invariant-loop-place
invariant-loop-place l = record {
  long : length l.initial.self.marks ≡ VERTICES_MAX;
  marked : MarkedSoFar (λ (k : ℕ). false) l.gone l.initial.self.marks l.self.marks l.place;
}
