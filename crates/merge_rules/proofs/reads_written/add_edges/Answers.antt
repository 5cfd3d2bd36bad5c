-- One edge more is counted.
use Rattle.std.proofs.Common.{◌≡◌, ◌∙◌, ◌+◌, map, drop, sym, ap, arith}
use Rattle.std.specs.Prelude.{slice_index}
use Rattle.model_core.specs.Rules.Uses.{edge_reads}
use Rattle.model_core.specs.Code.Views.{edge_of}
use Rattle.use_analysis.specs.UseNumbers.{UseNumbers, raised_at}
use Rattle.merge_rules.specs.Inner.ReadingEdges.{counted}
use Rattle.merge_rules.proofs.ConditionsAsked.CountedEdges.{one_left, raised_little}
use Rattle.merge_rules.proofs.reads_written.add_edges.Goals as goal

pub loop-edge-preserved : goal.loop-edge-preserved
loop-edge-preserved c =
    let e = edge_of c.edge-item.result in
    let now : c.add_edge.new.self.readers ≡ raised_at (edge_reads e) c.loop-edge.counts.readers = ap (λ (u : UseNumbers). u.readers) c.add_edge.ensures in
    record {
      readers =
          ap (counted (map edge_of (drop (c.loop-edge.edge-index + 1) c.args.edges.now))) now
          ∙ ap (λ es. counted es c.loop-edge.counts.readers) (sym (one_left c.args.edges.now c.loop-edge.edge-index c.edge-item.result c.loop-edge-test.true c.edge-item.is))
          ∙ c.loop-edge.invariant.readers;
      setters = ap (λ (u : UseNumbers). u.setters) c.add_edge.ensures ∙ c.loop-edge.invariant.setters;
      few = λ v.
          let same = ap (λ ns. slice_index ns v) now in
          let little = raised_little e c.loop-edge.counts.readers v in
          let so_far = c.loop-edge.invariant.few v in
          omega (arith, same, little, so_far);
    }
