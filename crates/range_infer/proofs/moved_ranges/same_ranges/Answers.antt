use Rattle.std.proofs.Common.{refl, arith}
use Rattle.std.proofs.lemmas.List.{ext_get_or}
use Rattle.model_core.specs.Ranges.OtherRanges.{no_range}
use Rattle.range_infer.proofs.moved_ranges.same_ranges.Goals as goal

pub returns : goal.returns
returns c = (λ yes. ext_get_or no_range c.args.a.now c.args.b.now c.requires (λ k small. c.loop-place.invariant k (let past = c.loop-place-test.false in omega (arith, small, past))), λ same. refl)
