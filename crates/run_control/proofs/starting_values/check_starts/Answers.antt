use Rattle.std.proofs.Common.{rules, ◌≡◌, sym, ap, ◌∙◌, arith, true, pos, get_or, length, w64}
use Rattle.std.proofs.lemmas.Int.{to_z-of_z}
use Rattle.std.proofs.lemmas.List.{length-map}
use Rattle.model_core.specs.declared.vertex.Vertex.{Vertex}
use Rattle.model_core.specs.Code.Views.{graph_of, variable_of, vertex_of}
use Rattle.sig_base.proofs.Lists.{holds_of_each}
use Rattle.run_control.specs.Beginning.{fits_at}
use Rattle.model_core.specs.Run.History.{start_parameters}
use Rattle.run_control.specs.PossibleModel.{PossibleVertex}
use Rattle.run_control.proofs.Starting.{one_more_below, parameter_there, all_fit}
use Rattle.run_control.proofs.starting_values.check_starts.Goals as goal

pub loop-i-preserved : goal.loop-i-preserved
loop-i-preserved c =
    let model = c.args.model.now in
    let vertex = c.index-as_slice-0.result in
    let i = c.loop-i.i in
    let is = rw c.as_slice.ensures at c.index-as_slice-0.is in
    let params = c.as_slice-params.ensures ∙ ap (λ (w : Vertex). w.params) (sym c.index-as_slice-0.is) in
    let long = ap length params in
    let possible = holds_of_each (PossibleVertex (graph_of model)) vertex_of model.vertices 0 vertex c.requires.vertices (omega (arith, c.requires.begins, length-map model.vertices vertex_of)) is in
    let declared = possible.parameters i 0 (omega (arith, long)) in
    let there = parameter_there model vertex i c.index-as_slice-params.result (omega (arith, c.requires.begins, length-map model.vertices vertex_of)) is (omega (arith, long)) (omega (arith, declared, length-map model.vars variable_of))
    (rw (params, c.as_slice-in-loop-i.ensures) at c.index-as_slice-params.is) in
    let within_so = rw (to_z-of_z w64 (get_or c.args.starts.now i (pos 0)) (search rules)) at c.is_within.ensures in
    let passes : c.is_within.result ≡ true = search rules in
    one_more_below (fits_at (start_parameters (graph_of model)) c.args.starts.now) i c.loop-i.invariant (rw there (sym within_so ∙ passes))

pub returns-clause-ok : goal.returns-clause-ok
returns-clause-ok c =
    all_fit c.args.model.now c.index-as_slice-0.result c.args.starts.now c.loop-i.i (omega (arith, c.requires.begins, length-map c.args.model.now.vertices vertex_of)) (rw c.as_slice.ensures at c.index-as_slice-0.is)
    (ap (λ (w : Vertex). length w.params) c.index-as_slice-0.is ∙ sym (ap length c.as_slice-params.ensures) ∙ search rules) (omega arith) c.loop-i.invariant

pub invariant_of-result : goal.invariant_of-result
invariant_of-result c =
    all_fit c.args.model.now c.index-as_slice-0.result c.args.starts.now c.loop-i.i (omega (arith, c.requires.begins, length-map c.args.model.now.vertices vertex_of)) (rw c.as_slice.ensures at c.index-as_slice-0.is)
    (ap (λ (w : Vertex). length w.params) c.index-as_slice-0.is ∙ sym (ap length c.as_slice-params.ensures) ∙ search rules) (omega arith) c.loop-i.invariant
