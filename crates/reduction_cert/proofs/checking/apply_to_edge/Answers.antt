-- What is known was found before the rule, and holds of its result.
use Rattle.std.proofs.Common.{◌∙◌, Some, None, cond, sym, ap}
use Rattle.edge_pruning.specs.declared.finding.EdgeRule.{EdgeRule}
use Rattle.model_core.specs.declared.rule_refused.RuleRefused.{RuleRefused}
use Rattle.model_core.specs.Code.Views.{graph_of}
use Rattle.model_core.specs.Rules.Conditions.{first_failed}
use Rattle.model_core.specs.Rules.Prune.{prune_conditions, pruned}
use Rattle.model_core.specs.Rules.Settle.{settle_conditions, settled}
use Rattle.model_core.specs.Rules.Reduction.{applied}
use Rattle.reduction_cert.specs.EdgeApplications.{application_by}
use Rattle.reduction_cert.proofs.RuleAnswers.{edge_made, ok-holds, facts_kept, none_named, prune_named, settle_named}
use Rattle.reduction_cert.proofs.checking.apply_to_edge.Goals as goal

pub returns-in_default-clause-made : goal.returns-in_default-clause-made
returns-in_default-clause-made c = none_named (graph_of c.args.model.now) c.args.rule c.args.vertex.now c.args.edge (sym (c.in_default.ensures (graph_of c.args.model.now) c.requires.listed))

pub returns-in-Prune-clause-made : goal.returns-in-Prune-clause-made
returns-in-Prune-clause-made c =
    let g = graph_of c.args.model.now in
    let h = graph_of c.prune-pruned.new.model in
    ap (λ (rule : EdgeRule). applied g (application_by rule c.args.vertex.now c.args.edge)) c.in-Prune.is
    ∙ prune_named g c.args.vertex.now c.args.edge c.in-Some.vertex c.in-Some.edge (sym (c.in-Some.ensures g c.requires.listed))
    ∙ edge_made (pruned g c.in-Some.vertex c.in-Some.edge) h (first_failed (prune_conditions g c.in-Some.vertex c.in-Some.edge)) (λ (e : RuleRefused). e.condition) c.prune-pruned.result c.prune-pruned.ensures.done c.prune-pruned.ensures.refused
    ∙ ap (λ made. cond made (Some h) None) (sym (c.keep_facts_if_made.ensures.is ∙ c.is_ok.ensures.value))

pub returns-in-Prune-clause-facts : goal.returns-in-Prune-clause-facts
returns-in-Prune-clause-facts c =
    let g = graph_of c.args.model.now in
    facts_kept (pruned g c.in-Some.vertex c.in-Some.edge) (graph_of c.prune-pruned.new.model) (first_failed (prune_conditions g c.in-Some.vertex c.in-Some.edge)) c.is_ok.result c.keep_after_prune.new.facts c.keep_facts_if_made.new.facts
    (λ is. ok-holds c.prune-pruned.result (sym c.is_ok.ensures.value ∙ is) c.prune-pruned.ensures.done) c.keep_after_prune.ensures.facts c.keep_facts_if_made.ensures.kept c.keep_facts_if_made.ensures.forgotten

pub returns-in-Settle-clause-made : goal.returns-in-Settle-clause-made
returns-in-Settle-clause-made c =
    let g = graph_of c.args.model.now in
    let h = graph_of c.settle-settled.new.model in
    ap (λ (rule : EdgeRule). applied g (application_by rule c.args.vertex.now c.args.edge)) c.in-Settle.is
    ∙ settle_named g c.args.vertex.now c.args.edge c.in-Some.vertex c.in-Some.edge (sym (c.in-Some.ensures g c.requires.listed))
    ∙ edge_made (settled g c.in-Some.vertex c.in-Some.edge) h (first_failed (settle_conditions g c.in-Some.vertex c.in-Some.edge)) (λ (e : RuleRefused). e.condition) c.settle-settled.result c.settle-settled.ensures.done c.settle-settled.ensures.refused
    ∙ ap (λ made. cond made (Some h) None) (sym (c.keep_facts_if_made-in-Settle.ensures.is ∙ c.is_ok-in-Settle.ensures.value))

pub returns-in-Settle-clause-facts : goal.returns-in-Settle-clause-facts
returns-in-Settle-clause-facts c =
    let g = graph_of c.args.model.now in
    facts_kept (settled g c.in-Some.vertex c.in-Some.edge) (graph_of c.settle-settled.new.model) (first_failed (settle_conditions g c.in-Some.vertex c.in-Some.edge)) c.is_ok-in-Settle.result c.keep_after_settle.new.facts c.keep_facts_if_made-in-Settle.new.facts
    (λ is. ok-holds c.settle-settled.result (sym c.is_ok-in-Settle.ensures.value ∙ is) c.settle-settled.ensures.done) c.keep_after_settle.ensures.facts c.keep_facts_if_made-in-Settle.ensures.kept c.keep_facts_if_made-in-Settle.ensures.forgotten
