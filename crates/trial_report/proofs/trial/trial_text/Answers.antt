use Rattle.std.proofs.Common.{List, ℕ, ◌++◌, codes, length, map, sym, ap, ◌∙◌, subst}
use Rattle.std.proofs.lemmas.List.{length-map}
use Rattle.model_core.specs.EventGraph.{EventGraph}
use Rattle.model_core.specs.Run.Step.{vertex_at}
use Rattle.model_core.specs.Rules.Reduction.{Strategy}
use Rattle.model_core.specs.Code.Views.{graph_of, application_of}
use Rattle.trial_report.specs.TrialText.{size_line, reduction_lines, summary}
use Rattle.trial_report.proofs.SummaryLines.{plain_kept, plain_made}
use Rattle.trial_report.proofs.trial.trial_text.Goals as goal

pub put_reduction-requires-clause-plain : goal.put_reduction-requires-clause-plain
put_reduction-requires-clause-plain c =
    let g = graph_of c.in_ok-model.model in
    let h = graph_of c.in_ok-reduced.reduced.model in
    plain_kept g h (c.strategies_keep_the_meaning.ensures.same g (map application_of c.in_ok-reduced.reduced.applications) h c.in_ok-model.ensures.valid c.in_ok-reduced.ensures)
    (ap (λ (x : EventGraph). (vertex_at x 0).parameters) c.in_ok-model.ensures.made ∙ plain_made c.args.seed c.args.vertices)

pub returns : goal.returns
returns c =
    let a = c.args in
    let g = graph_of c.in_ok-model.model in
    let h = graph_of c.in_ok-reduced.reduced.model in
    let applications = map application_of c.in_ok-reduced.reduced.applications in
    let sized = c.in_ok-put_size.ensures ∙ ap (λ (items : List ℕ). items ++ size_line (codes "original") g) c.new-out.ensures.items in
    let lines = c.in_ok-put_reduction.ensures g c.in_ok-run.ensures in
    let many = ap (λ n. size_line (codes "original") g ++ reduction_lines g h n a.seed a.until a.events) (sym (length-map c.in_ok-reduced.reduced.applications application_of)) in
    let written = c.from_vec.ensures ∙ lines ∙ ap (λ (items : List ℕ). items ++ reduction_lines g h (length c.in_ok-reduced.reduced.applications) a.seed a.until a.events) sized ∙ many in
    record {
      applications = applications;
      reduced = h;
      strategy = subst (λ (x : EventGraph). Strategy x applications h) c.in_ok-model.ensures.made c.in_ok-reduced.ensures;
      written = written ∙ ap (λ (x : EventGraph). summary x h (length applications) a.seed a.until a.events) c.in_ok-model.ensures.made;
    }
