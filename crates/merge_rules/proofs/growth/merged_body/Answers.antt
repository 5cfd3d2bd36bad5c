-- The lines of the vertex are longer by those that are added, and shorter by that of the edge.
use Rattle.std.proofs.Common.{◌∙◌, ◌-◌, ◌^◌, length, ap}
use Rattle.model_core.specs.Code.Views.{graph_of}
use Rattle.model_core.specs.Run.Step.{vertex_at}
use Rattle.model_core.specs.Rules.Merge.{merge_conditions, merged}
use Rattle.vertex_laws.specs.BodyLines.{body_lines}
use Rattle.merge_rules.specs.Growth.{bytes_added, bytes_gone}
use Rattle.merge_rules.specs.declared.growth.Growth.{Growth}
use Rattle.merge_rules.proofs.ConditionsAsked.PairsFound.{front_holds}
use Rattle.merge_rules.proofs.MergedText.LimitsTested.{body_grown, gone_within_body}
use Rattle.merge_rules.proofs.BodiesKept.{taken_from, body_sum}
use Rattle.merge_rules.proofs.growth.merged_body.Goals as goal

pub overflow_sub-body : goal.overflow_sub-body
overflow_sub-body c =
    let g = graph_of c.args.model.now in
    let within = gone_within_body g c.args.first c.args.second (front_holds 7 (merge_conditions g c.args.first c.args.second) c.requires.holds) in
    taken_from (2 ^ 64 - 1) (length (body_lines g (vertex_at g c.args.first))) (bytes_gone g c.args.first) c.find_body-body.result c.args.grows.gone
    within c.find_body-body.ensures.is (ap (λ (x : Growth). x.gone) c.requires.grows)

pub returns-clause-is : goal.returns-clause-is
returns-clause-is c =
    let g = graph_of c.args.model.now in
    let h = merged g c.args.first c.args.second in
    let front = front_holds 7 (merge_conditions g c.args.first c.args.second) c.requires.holds in
    c.saturating_add.ensures
    ∙ body_sum (2 ^ 64 - 1) (length (body_lines g (vertex_at g c.args.first))) (bytes_gone g c.args.first) (bytes_added g c.args.first) (length (body_lines h (vertex_at h c.args.first))) c.find_body-body.result c.args.grows.gone c.args.grows.added
    (body_grown g c.args.first c.args.second front) (gone_within_body g c.args.first c.args.second front) c.find_body-body.ensures.is c.if-body.false (ap (λ (x : Growth). x.gone) c.requires.grows) (ap (λ (x : Growth). x.added) c.requires.grows)
