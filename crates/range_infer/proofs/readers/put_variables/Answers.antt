-- One variable more.
use Rattle.std.proofs.Common.{ℕ, List, refl}
use Rattle.model_core.specs.Rules.PlacedEdges.{with_place}
use Rattle.range_infer.specs.declared.readers.PartPlace.{PartPlace}
use Rattle.range_infer.specs.Inner.Readers.{with_part}
use Rattle.range_infer.proofs.OneMorePut.{put_more, all_put}
use Rattle.range_infer.proofs.readers.put_variables.Goals as goal

pub loop-var-preserved : goal.loop-var-preserved
loop-var-preserved c = put_more (λ (k : ℕ) (lists : List (List PartPlace)) (v : ℕ). with_place (with_part c.args.part) v lists) c.args.vars.now c.loop-var.var-index c.loop-var.readers.items _ c.loop-var.invariant 0 _ c.put_variable.new.readers.items c.loop-var-test.true refl c.in_ok-put_variable.ensures

pub returns : goal.returns
returns c = all_put (λ (k : ℕ) (lists : List (List PartPlace)) (v : ℕ). with_place (with_part c.args.part) v lists) c.args.vars.now c.loop-var.var-index c.loop-var.readers.items _ c.loop-var.invariant c.loop-var-test.false
