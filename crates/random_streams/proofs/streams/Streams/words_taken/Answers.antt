use Rattle.std.proofs.Common.{length, sym, ap, ◌∙◌}
use Rattle.random_streams.specs.Draws.{WordsTaken}
use Rattle.random_streams.proofs.streams.Streams.words_taken.Goals as goal

pub returns-clause-streams : goal.returns-clause-streams
returns-clause-streams c =
    ap (λ (s : WordsTaken). length s.taken) (sym c.self.view_is) ∙ c.self.invariant.1
