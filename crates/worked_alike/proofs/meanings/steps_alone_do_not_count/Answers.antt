use Rattle.std.proofs.Common.{refl}
use Rattle.worked_runs.specs.Pairs.{two_events, one_event}
use Rattle.worked_alike.proofs.meanings.steps_alone_do_not_count.Goals as goal

pub returns-clause-but_alike : goal.returns-clause-but_alike
returns-clause-but_alike c =
    let laws = c.meaning_alike_is_an_equivalence.ensures in
    laws.symmetric two_events one_event (laws.same two_events one_event c.steps_may_be_fewer.ensures.fewer (record { watched = refl; shapes = refl; started = refl; kinds = refl }))
