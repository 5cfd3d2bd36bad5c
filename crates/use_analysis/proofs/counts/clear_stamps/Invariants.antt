use Rattle.use_analysis.specs.declared.moving.Stamped.{Stamped}
use Rattle.mark_laws.proofs.WrittenAnew.{WrittenAnew}
use Rattle.use_analysis.specs.Inner.Moving.{without_stamp}
use Rattle.use_analysis.proofs.counts.clear_stamps.Given as goal

abbrev pub invariant-loop-number : goal.invariant-loop-number
invariant-loop-number l = WrittenAnew (λ (s : Stamped). s) without_stamp l.number-index l.initial.number-items l.number-items
