use Rattle.model_core.specs.Code.WrittenViews.{written_name, written_model}
use Rattle.static_laws.proofs.LeftOut.{map-items}
use Rattle.static_laws.proofs.WholeModel.{model_checked}
use Rattle.sig_types.proofs.checking.numbered_among.Goals as goal

pub returns : goal.returns
returns c =
    λ means takes start head.
    let lists = c.in_ok-lists.ensures in
    let watch = rw (c.items.ensures, map-items written_name c.args.raw.watch, means) at lists.4 in
    let vertices = rw (means, takes) at c.in_ok-vertices.ensures in
    model_checked (written_model c.args.raw) start c.args.fault.now lists.0 lists.1 c.check_lists.new.fault c.vertices.new.fault _ _ _ _ head lists.2 lists.3 watch vertices
