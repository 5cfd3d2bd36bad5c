-- Merged are the vertices of these names, or none.
use Rattle.std.proofs.Common.{◌≡◌, Some, rules}
use Rattle.model_core.specs.Code.Views.{graph_of}
use Rattle.model_core.specs.Rules.Reduction.{two_vertices_named}
use Rattle.reduction_cert.proofs.SameAfterDrop.{merge-answer}
use Rattle.reduction_cert.proofs.checking.apply_merge.Goals as goal

pub returns-in_default-clause-made : goal.returns-in_default-clause-made
returns-in_default-clause-made c = let none = c.in_default.ensures (graph_of c.args.model.now) c.requires.listed in search rules

pub returns-clause-made : goal.returns-clause-made
returns-clause-made c =
    let g = graph_of c.args.model.now in
    let named : two_vertices_named g c.args.vertex.now c.args.target.now ≡ Some (c.in-Some.vertex, c.in-Some.target) = (let is = c.in-Some.ensures g c.requires.listed in search rules) in
    merge-answer c.args.second g c.args.vertex.now c.args.target.now c.in-Some.vertex c.in-Some.target (graph_of c.merge_measured.new.model) named
    c.merge_measured.result c.merge_measured.ensures.done c.merge_measured.ensures.refused c.was_applied.result c.was_applied.ensures.made c.was_applied.ensures.refused
