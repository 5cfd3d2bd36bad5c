-- The list at the place is changed, or there is none.
use Rattle.std.proofs.Common.{refl, arith}
use Rattle.std.proofs.lemmas.Result.{on_ok_weaker}
use Rattle.model_core.proofs.PlacesChanged.{set-with_place, place-beyond}
use Rattle.range_infer.specs.Inner.Readers.{with_part}
use Rattle.range_infer.proofs.readers.put_variable.Goals as goal

pub returns-in-Some : goal.returns-in-Some
returns-in-Some c =
    on_ok_weaker c.add_part_once.result
    (λ same. set-with_place (with_part c.args.part) c.args.readers.now.items c.args.var c.in-Some.parts.now _ (omega (arith, c.args.readers.now.ok.0, c.in-Some.ensures.variant.0 refl)) c.in-Some.ensures.value same)
    c.add_part_once.ensures

pub returns-in-None : goal.returns-in-None
returns-in-None c = place-beyond (with_part c.args.part) c.args.readers.now.items c.args.var (λ below. c.in-None.ensures.variant.1 (omega (arith, c.args.readers.now.ok.0, below)))
