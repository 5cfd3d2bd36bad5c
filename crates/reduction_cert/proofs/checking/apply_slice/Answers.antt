use Rattle.std.proofs.Common.{◌≡◌, ◌∙◌, ap, map, List, rules}
use Rattle.model_core.specs.declared.model.Var.{Var}
use Rattle.model_core.specs.EventGraph.{Variable}
use Rattle.model_core.specs.Code.Views.{graph_of, variable_of}
use Rattle.model_core.specs.Text.Numbering.{each_numbered, declared_place}
use Rattle.model_core.specs.Rules.Reduction.{variables_named}
use Rattle.reduction_cert.proofs.PlacesByTable.{all_by_table}
use Rattle.reduction_cert.proofs.checking.apply_slice.Goals as goal

pub returns : goal.returns
returns c =
    let named : c.in_ok-sliced.field-0 ≡ variables_named (graph_of c.args.model.now) c.args.names.now =
    c.in_ok-sliced.ensures ∙ all_by_table _ _ _ c.in_ok-vars.ensures
    ∙ ap (λ (vs : List Var). each_numbered (λ name. declared_place name (map (λ (v : Variable). v.name) (map variable_of vs))) c.args.names.now) c.as_slice.ensures in
    search rules
