-- The name and the parameters are copied, and the two lists are empty.
use Rattle.std.proofs.Common.{◌∙◌, map}
use Rattle.model_core.specs.Code.Views.{change_of, edge_of}
use Rattle.merge_rules.proofs.taking_over.hollow_copy.Goals as goal

pub returns : goal.returns
returns c = λ i. record {
  name = c.in_ok-copy_name.ensures i;
  parameters = (c.from_vec.ensures ∙ c.in_ok-from_slice.ensures.items ∙ c.as_slice.ensures) i;
  changes = map change_of (c.new.ensures i);
  edges = map edge_of (c.new-2.ensures i);
}
