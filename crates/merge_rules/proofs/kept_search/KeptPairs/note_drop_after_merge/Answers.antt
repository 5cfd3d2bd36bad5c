-- The second one is as it was before the merge.
use Rattle.std.proofs.Common.{◌≡◌, ◌∙◌, map, sym, ap, arith}
use Rattle.model_core.specs.EventGraph.{EventVertex}
use Rattle.model_core.specs.Run.Step.{vertex_at}
use Rattle.model_core.specs.Rules.Merge.{merged}
use Rattle.model_core.specs.Code.Views.{graph_of, edge_of}
use Rattle.merge_rules.proofs.HollowedText.{second_there, second_stays}
use Rattle.merge_rules.proofs.OneStepForTwo.MergeHolds.{conditions_hold}
use Rattle.merge_rules.proofs.kept_search.KeptPairs.note_drop_after_merge.Goals as goal

pub take_away-requires : goal.take_away-requires
take_away-requires c =
    let below = second_there (graph_of c.args.model.now) c.args.first c.args.second c.requires.holds in
    omega (arith, c.requires.kept.long, below)

pub returns : goal.returns
returns c =
    let g = graph_of c.args.model.now in
    let a = c.args.first in
    let b = c.args.second in
    let edges : map edge_of c.edges_at.result.now ≡ (vertex_at (merged g a b) b).edges =
    c.edges_at.ensures ∙ sym (ap (λ (v : EventVertex). v.edges) (second_stays g a b c.requires.holds)) in
    c.take_away.ensures (merged g a b) c.requires.kept (c.merging_keeps_the_meaning.ensures.valid g a b c.requires.valid c.requires.holds) c.requires.unled (conditions_hold g a b c.requires.holds).target_unwatched edges
