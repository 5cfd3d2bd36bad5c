-- The number at the place is another one, or there is no such place.
use Rattle.std.proofs.Common.{refl, arith}
use Rattle.model_core.proofs.PlacesChanged.{set-with_place, place-beyond}
use Rattle.model_facts.proofs.bodies.put_at.Goals as goal

pub returns-then-place-len : goal.returns-then-place-len
returns-then-place-len c = set-with_place (λ n. c.args.number) c.args.numbers.now.items c.args.place c.index_mut.result.now _ (omega (arith, c.len.ensures, c.if-place-len.true)) c.index_mut.ensures.value refl

pub returns-else-place-len : goal.returns-else-place-len
returns-else-place-len c = place-beyond (λ n. c.args.number) c.args.numbers.now.items c.args.place (λ below. absurd (omega (arith, c.len.ensures, c.if-place-len.false, below)))
