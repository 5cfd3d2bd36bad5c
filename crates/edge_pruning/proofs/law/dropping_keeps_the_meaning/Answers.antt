use Rattle.std.proofs.Common.{◌≡◌, ◌∙◌, sym, ap, subst, []}
use Rattle.model_core.specs.EventGraph.{EventGraph}
use Rattle.model_core.specs.Run.Same.{Same}
use Rattle.model_core.specs.Static.Reading.{IsValid}
use Rattle.model_core.specs.Rules.Reached.{reached_marks, unreached}
use Rattle.model_core.specs.Rules.Drop.{only_marked, dropped}
use Rattle.edge_pruning.proofs.ReachedMarks.{first-begins, reached_marks-hold}
use Rattle.edge_pruning.proofs.DropResult.{lists_unreached, without_unreached}
use Rattle.edge_pruning.proofs.DropSame.{reached_same}
use Rattle.edge_pruning.proofs.AllReached.{all_reached}
use Rattle.edge_pruning.proofs.ValidDropped.{names_vertices, dropped_rules, dropped_spellable}
use Rattle.edge_pruning.proofs.law.dropping_keeps_the_meaning.Goals as goal

pub returns-clause-valid : goal.returns-clause-valid
returns-clause-valid c = λ g vertices valid none.
    let p = (c.validity_is_by_parts.ensures.by_parts g).0 valid in
    let names = names_vertices g p.1 in
    let marks = reached_marks g in
    let hold = reached_marks-hold g in
    let first = hold.begins 0 (first-begins g) names.some in
    subst IsValid (sym (ap (dropped g) (lists_unreached g vertices none) ∙ without_unreached g))
    ((c.validity_is_by_parts.ensures.by_parts (only_marked g marks)).1 (dropped_rules g marks hold names first p.0, dropped_spellable g marks hold names first p.1))

pub returns-clause-same : goal.returns-clause-same
returns-clause-same c = λ g vertices valid none.
    let p = (c.validity_is_by_parts.ensures.by_parts g).0 valid in
    subst (Same g) (sym (ap (dropped g) (lists_unreached g vertices none) ∙ without_unreached g)) (reached_same g (names_vertices g p.1))

pub returns-clause-all_reached : goal.returns-clause-all_reached
returns-clause-all_reached c = λ g vertices valid none.
    subst (λ (h : EventGraph). unreached h ≡ []) (sym (ap (dropped g) (lists_unreached g vertices none) ∙ without_unreached g)) (all_reached g)
