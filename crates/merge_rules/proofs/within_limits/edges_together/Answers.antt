-- All edges but one, and those of the second.
use Rattle.std.proofs.Common.{arith}
use Rattle.std.proofs.lemmas.List.{length-map}
use Rattle.model_core.specs.Code.Views.{vertex_of, edge_of}
use Rattle.merge_rules.proofs.MergedText.LimitsTested.{edges_many}
use Rattle.merge_rules.proofs.SingleUrgentModels.PlainEdges.{plain_within}
use Rattle.merge_rules.proofs.within_limits.edges_together.Goals as goal

pub returns : goal.returns
returns c = λ place is.
    let many = edges_many (vertex_of c.args.first.now) (vertex_of c.args.second.now) place is in
    let some = plain_within (vertex_of c.args.first.now) place is in
    let first = length-map c.args.first.now.edges edge_of in
    let second = length-map c.args.second.now.edges edge_of in
    omega (arith, many, some, first, second, c.len.ensures, c.len-2.ensures, c.saturating_sub.ensures, c.saturating_add.ensures)
