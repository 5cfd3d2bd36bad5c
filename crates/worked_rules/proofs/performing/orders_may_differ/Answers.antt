-- The first holds an entry twice, and the second once.
use Rattle.std.proofs.Common.{◌≡◌, arith}
use Rattle.worked_runs.specs.TwoEvents.{soon}
use Rattle.worked_rules.proofs.performing.orders_may_differ.Goals as goal

pub returns-clause-held : goal.returns-clause-held
returns-clause-held c = λ same.
    let once : 2 ≡ 1 = same.held (soon 1) in
    omega (arith, once)
