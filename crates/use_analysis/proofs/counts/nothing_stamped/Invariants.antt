use Rattle.std.proofs.Common.{◌≡◌}
use Rattle.use_analysis.specs.Inner.Moving.{nothing_stamped}
use Rattle.use_analysis.proofs.counts.nothing_stamped.Given as goal

abbrev pub invariant-loop-var : goal.invariant-loop-var
invariant-loop-var l = l.numbers.items ≡ nothing_stamped l._var
