use Rattle.mark_laws.proofs.WrittenAnew.{WrittenAnew}
use Rattle.merge_rules.specs.Inner.PairMoves.{moved_up}
use Rattle.merge_rules.proofs.kept_pairs.move_up.Given as goal

abbrev pub invariant-loop-pair : goal.invariant-loop-pair
invariant-loop-pair l = WrittenAnew (λ p. p) (moved_up l.gone) l.pair-index l.initial.pair-items l.pair-items
