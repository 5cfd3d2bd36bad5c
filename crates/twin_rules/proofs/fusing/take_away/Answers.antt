-- What is taken away is gone from what is seen.
use Rattle.std.proofs.Common.{map, ap, ◌∙◌, List}
use Rattle.model_core.specs.declared.vertex.Vertex.{Vertex}
use Rattle.model_core.specs.Rules.Drop.{vertex_renumbered}
use Rattle.model_core.specs.Rules.Fuse.{fused_place}
use Rattle.model_core.specs.Code.Views.{vertex_of}
use Rattle.model_core.proofs.Images.{map-remove}
use Rattle.twin_rules.proofs.fusing.take_away.Goals as goal

pub returns : goal.returns
returns c =
    c.renumber_vertices.ensures ∙ ap (map (vertex_renumbered (fused_place c.args.places.now.keep c.args.places.now.gone))) (ap (λ (vs : List Vertex). map vertex_of vs) c.remove.ensures.items ∙ map-remove vertex_of c.args.vertices.now.items c.args.places.now.gone)
