-- Both numbers begin as 0.
use Rattle.std.proofs.Common.{ap, ◌∙◌}
use Rattle.use_analysis.specs.UseNumbers.{UseNumbers}
use Rattle.worked_rules.proofs.RaisedNumbers.{raised_once, not_raised}
use Rattle.worked_rules.proofs.counting.one_edge_counts.Goals as goal

pub returns : goal.returns
returns c = λ small. (
  c.readers.ensures ∙ raised_once _ _ c.args.var _ _ (ap (λ (n : UseNumbers). n.readers) c.in_ok-counts.ensures) (ap (λ (n : UseNumbers). n.readers) c.add_edge.ensures) small,
  c.setters.ensures ∙ not_raised _ c.args.var _ _ (ap (λ (n : UseNumbers). n.setters) c.in_ok-counts.ensures) (ap (λ (n : UseNumbers). n.setters) c.add_edge.ensures) small,
)
