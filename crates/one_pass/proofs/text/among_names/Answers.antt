use Rattle.std.proofs.Common.{map, refl}
use Rattle.model_core.specs.Code.WrittenViews.{written_name, written_vertex, written_model}
use Rattle.model_core.specs.Static.Meanings.{meaning_of}
use Rattle.model_core.specs.Static.PartFaults.{kinds_taken}
use Rattle.static_laws.proofs.LeftOut.{map-items}
use Rattle.one_pass.proofs.TextRead.{model_taken}
use Rattle.one_pass.proofs.text.among_names.Goals as goal

pub returns-clause-ok : goal.returns-clause-ok
returns-clause-ok c =
    λ means start head.
    let m = meaning_of c.args.names.now in
    let lists = c.in_ok-lists.ensures in
    let watch = rw (c.items.ensures, map-items written_name c.args.begun.watch) at lists.4 in
    let vertices = rw (c.is_version_two-is_two.ensures, c.as_slice.ensures) at c.in_ok-vertices.ensures.ok in
    model_taken (written_model c.args.begun) m (map (kinds_taken m) (map written_vertex c.args.begun.vertices)) c.args.cursor.now c.expected_vertices.new.cursor
    start c.args.fault.now lists.0 lists.1 c.check_lists.new.fault c.expected_vertices.new.fault _ _ _ _ means refl head lists.2 lists.3 watch vertices
