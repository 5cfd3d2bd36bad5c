-- The count at the place is one fewer, or there is no such place.
use Rattle.std.proofs.Common.{rules, ◌≡◌, ◌-◌, ap, arith}
use Rattle.model_core.proofs.PlacesChanged.{set-with_place, place-beyond}
use Rattle.merge_rules.specs.Inner.PairMoves.{with_fewer}
use Rattle.merge_rules.specs.declared.kept_pairs.KeptPair.{KeptPair}
use Rattle.merge_rules.proofs.kept_pairs.take_edge.Goals as goal

pub returns-then-target-len : goal.returns-then-target-len
returns-then-target-len c =
    let p = c.index-pair.result.now in
    let one : c.saturating_sub.result ≡ p.incoming - 1 = search rules in
    set-with_place (with_fewer 1) c.args.pairs.now.items c.args.target p _ (omega (arith, c.len.ensures, c.if-target-len.true)) c.index-pair.ensures
    (ap (λ n. let q : KeptPair = record p { incoming = n } in q) one)

pub returns-else-target-len : goal.returns-else-target-len
returns-else-target-len c = place-beyond (with_fewer 1) c.args.pairs.now.items c.args.target (λ below. absurd (omega (arith, c.len.ensures, c.if-target-len.false, below)))
