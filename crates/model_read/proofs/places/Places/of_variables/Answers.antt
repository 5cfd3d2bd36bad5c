use Rattle.model_core.specs.EventGraph.{Variable}
use Rattle.model_core.specs.Code.Views.{variable_of}
use Rattle.model_read.proofs.NamesInTables.{so_far_more, so_far_all}
use Rattle.model_read.proofs.places.Places.of_variables.Goals as goal

pub loop-place-preserved : goal.loop-place-preserved
loop-place-preserved c = so_far_more variable_of (λ (v : Variable). v.name) c.args.vars.now c.loop-place.place c.index-vars-place.result c.loop-place.places c.add_first.new.self c.loop-place-test.true c.index-vars-place.is c.loop-place.invariant c.in_ok-add_first.ensures

pub returns : goal.returns
returns c = so_far_all variable_of (λ (v : Variable). v.name) c.args.vars.now c.loop-place.place c.loop-place.places c.loop-place-test.false c.loop-place.invariant
