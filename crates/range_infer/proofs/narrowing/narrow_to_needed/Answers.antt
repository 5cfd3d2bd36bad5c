use Rattle.std.proofs.Common.{◌∙◌, sym, ap}
use Rattle.model_core.specs.Code.Views.{graph_of}
use Rattle.model_core.specs.Ranges.Narrowed.{with_ranges_if_short}
use Rattle.range_infer.proofs.narrowing.narrow_to_needed.Goals as goal

pub returns-clause-narrowed : goal.returns-clause-narrowed
returns-clause-narrowed c = record {
  ranges = c.in_ok-ranges.ranges;
  inferred = c.in_ok-ranges.ensures.inferred;
  declared = sym (c.in_ok-_declared.ensures.model ∙ ap (with_ranges_if_short (graph_of c.args.model.now)) c.as_slice.ensures);
}
