-- The number at the place moves, or there is none.
use Rattle.std.proofs.Common.{get_or, arith}
use Rattle.model_core.proofs.PlacesChanged.{set-with_place, place-beyond}
use Rattle.use_analysis.proofs.MovedNumbers.{read_there}
use Rattle.use_analysis.specs.Inner.Moving.{moved_number}
use Rattle.use_analysis.proofs.moving.move_at.Goals as goal

pub returns-then-var-numbers : goal.returns-then-var-numbers
returns-then-var-numbers c =
    set-with_place (moved_number c.args.part) c.args.numbers.now c.args.var (get_or c.args.numbers.now c.args.var (record { number = 0; stamp = 0 })) _ c.if-var-numbers.true (read_there c.args.numbers.now c.args.var _) c.move_one.ensures

pub returns-else-var-numbers : goal.returns-else-var-numbers
returns-else-var-numbers c = place-beyond (moved_number c.args.part) c.args.numbers.now c.args.var (λ below. absurd (omega (arith, below, c.if-var-numbers.false)))
