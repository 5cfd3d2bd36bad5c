-- One edge more is taken away.
use Rattle.std.proofs.Common.{◌≡◌, ◌∙◌, ◌+◌, ◌<◌, ◌≤◌, ℕ, List, map, drop, length, sym, ap, subst}
use Rattle.std.specs.Prelude.{count_by, slice_index}
use Rattle.model_core.specs.EventGraph.{EventEdge}
use Rattle.model_core.specs.Rules.Uses.{edge_reads}
use Rattle.model_core.specs.Code.Views.{edge_of}
use Rattle.use_analysis.specs.UseNumbers.{UseNumbers, lowered_at}
use Rattle.merge_rules.specs.Inner.ReadingEdges.{reads_it, uncounted}
use Rattle.merge_rules.proofs.ConditionsAsked.CountedEdges.{one_left, still_enough, can_lower}
use Rattle.merge_rules.proofs.reads_written.take_edges.Goals as goal

pub loop-edge-preserved : goal.loop-edge-preserved
loop-edge-preserved c =
    let e = edge_of c.edge-item.result in
    let rest = map edge_of (drop (c.loop-edge.edge-index + 1) c.args.edges.now) in
    let left = one_left c.args.edges.now c.loop-edge.edge-index c.edge-item.result c.loop-edge-test.true c.edge-item.is in
    let now : c.take_edge.new.self.readers ≡ lowered_at (edge_reads e) c.loop-edge.counts.readers = ap (λ (u : UseNumbers). u.readers) c.take_edge.ensures in
    record {
      readers =
          ap (uncounted rest) now
          ∙ ap (λ es. uncounted es c.loop-edge.counts.readers) (sym left)
          ∙ c.loop-edge.invariant.readers;
      setters = ap (λ (u : UseNumbers). u.setters) c.take_edge.ensures ∙ c.loop-edge.invariant.setters;
      enough =
          subst (λ (ns : List ℕ). (v : ℕ) → v < length ns → count_by (reads_it v) rest ≤ slice_index ns v) (sym now)
          (still_enough e rest c.loop-edge.counts.readers (subst (λ (es : List EventEdge). (v : ℕ) → v < length c.loop-edge.counts.readers → count_by (reads_it v) es ≤ slice_index c.loop-edge.counts.readers v) left c.loop-edge.invariant.enough));
    }

pub take_edge-requires : goal.take_edge-requires
take_edge-requires c =
    let e = edge_of c.edge-item.result in
    let rest = map edge_of (drop (c.loop-edge.edge-index + 1) c.args.edges.now) in
    let left = one_left c.args.edges.now c.loop-edge.edge-index c.edge-item.result c.loop-edge-test.true c.edge-item.is in
    can_lower e rest c.loop-edge.counts.readers (subst (λ (es : List EventEdge). (v : ℕ) → v < length c.loop-edge.counts.readers → count_by (reads_it v) es ≤ slice_index c.loop-edge.counts.readers v) left c.loop-edge.invariant.enough)
