-- The vertex at the place leads nowhere, or there is no such place.
use Rattle.std.proofs.Common.{refl, arith}
use Rattle.model_core.proofs.PlacesChanged.{set-with_place, place-beyond}
use Rattle.merge_rules.specs.Inner.PairMoves.{target_removed}
use Rattle.merge_rules.proofs.kept_pairs.remove_target.Goals as goal

pub returns-then-first-len : goal.returns-then-first-len
returns-then-first-len c = set-with_place target_removed c.args.pairs.now.items c.args.first c.index.result.now _ (omega (arith, c.len.ensures, c.if-first-len.true)) c.index.ensures refl

pub returns-else-first-len : goal.returns-else-first-len
returns-else-first-len c = place-beyond target_removed c.args.pairs.now.items c.args.first (λ below. absurd (omega (arith, c.len.ensures, c.if-first-len.false, below)))
