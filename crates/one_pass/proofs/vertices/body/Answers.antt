use Rattle.std.proofs.Common.{arith, ◌≤◌, length, map}
use Rattle.std.proofs.lemmas.List.{length-map}
use Rattle.sig_base.specs.declared.limits.TheConstants.{CHANGES_MAX, EDGES_MAX}
use Rattle.model_core.specs.Code.Views.{change_of, edge_of}
use Rattle.one_pass.proofs.vertices.body.Goals as goal

pub returns : goal.returns
returns c =
    let changes = length-map c.in_ok-changes.changes change_of in
    let edges = length-map c.in_ok-edges.edges edge_of in
    let changes_within : length (map change_of c.in_ok-changes.changes) ≤ CHANGES_MAX = omega (arith, c.if-len-gt-CHANGES_MAX.false, c.len.ensures) in
    let edges_within : length (map edge_of c.in_ok-edges.edges) ≤ EDGES_MAX = omega (arith, c.if-len-gt-EDGES_MAX.false, c.len-else-len-gt-CHANGES_MAX.ensures) in
    record {
      between = c.take_all.new.cursor;
      last = c.take_all-2.new.cursor;
      end_at = c.in_ok-symbol.field-0;
      first = c.take_all.new.fault;
      changes = c.in_ok-changes.ensures;
      changes_within = changes_within;
      edges = c.in_ok-edges.ensures;
      edges_within = edges_within;
      closed = c.in_ok-symbol.ensures.reads;
    }
