use Rattle.mark_laws.proofs.WrittenAnew.{WrittenAnew}
use Rattle.merge_rules.specs.Inner.PairMoves.{answer_forgotten}
use Rattle.merge_rules.proofs.kept_pairs.forget_answers.Given as goal

abbrev pub invariant-loop-pair : goal.invariant-loop-pair
invariant-loop-pair l = WrittenAnew (λ p. p) (answer_forgotten l.first) l.pair-index l.initial.pair-items l.pair-items
