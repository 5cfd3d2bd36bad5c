use Rattle.std.proofs.Common.{◌∙◌, sym, ap, map, slice_get, List}
use Rattle.model_core.specs.declared.vertex.Target.{Target}
use Rattle.model_core.specs.EventGraph.{Location}
use Rattle.model_core.specs.Code.Views.{location_of}
use Rattle.var_slicing.proofs.LeftLists.{variable_there}
use Rattle.var_slicing.proofs.paired_lists.ListTargetHasVars.var_at.Goals as goal

pub returns : goal.returns
returns c =
    let found = c.in_ok-target.ensures.lookup in
    sym (variable_there c.as_slice.result.now c.args.place c.in_ok-target.target.now found.3.0 found.1)
    ∙ ap (λ (ts : List Target). slice_get (map (λ (l : Location). l.variable) (map location_of ts)) c.args.place) c.as_slice.ensures
