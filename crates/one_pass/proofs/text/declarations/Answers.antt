-- There is no vertex yet, so the faults of the version are those of the declarations.
use Rattle.std.proofs.Common.{map, ap, ◌∙◌}
use Rattle.model_core.specs.Code.WrittenViews.{written_vertex, written_model}
use Rattle.model_core.specs.Static.FaultOrder.{earliest_fault}
use Rattle.one_pass.proofs.TextRead.{version-declared}
use Rattle.one_pass.proofs.text.declarations.Goals as goal

pub returns-clause-version : goal.returns-clause-version
returns-clause-version c =
    let begun = c.in_ok-begun.begun in
    c.report_version.ensures ∙ ap (earliest_fault c.args.fault.now) (version-declared (written_model begun) (ap (map written_vertex) c.in_ok-begun.ensures.no_vertices))
