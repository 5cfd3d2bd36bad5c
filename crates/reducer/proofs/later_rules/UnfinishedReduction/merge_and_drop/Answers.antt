-- The second vertex has given away what it does, of which its drop takes no notice.
use Rattle.std.proofs.Common.{rules, ◌≡◌, ◌∙◌, ◌++◌, ℕ, List, [], ◌∷◌, map, None, subst, sym, ap, ap₂}
use Rattle.std.proofs.lemmas.Result.{on_ok_weaker}
use Rattle.model_core.specs.EventGraph.{EventGraph}
use Rattle.model_core.specs.Code.Views.{graph_of, application_of}
use Rattle.model_core.specs.Text.Canonical.{vertex_name}
use Rattle.model_core.specs.Static.Reading.{IsValid}
use Rattle.model_core.specs.Rules.Conditions.{first_failed}
use Rattle.model_core.specs.Rules.Reached.{unreached}
use Rattle.model_core.specs.Rules.Drop.{drop_conditions, dropped}
use Rattle.model_core.specs.Rules.Merge.{merged}
use Rattle.model_core.specs.Rules.Reduction.{RuleApplication, Drop, Merge}
use Rattle.vertex_laws.proofs.MergedNames.{merged-named}
use Rattle.model_facts.specs.FactsOfModel.{FactsAreRight}
use Rattle.merge_rules.specs.Hollowed.{hollow, hollowed}
use Rattle.merge_rules.specs.KeptPairs.{PairsAreRight}
use Rattle.reducer.specs.Inner.LaterRules.{dropped_too}
use Rattle.reducer.proofs.FirstLaterRule.{exactly_hold, drop_made}
use Rattle.reducer.proofs.ProgressAfterMerge.{hollow_named, progress-right}
use Rattle.reducer.proofs.later_rules.UnfinishedReduction.merge_and_drop.Goals as goal

pub drop_unreached-requires : goal.drop_unreached-requires
drop_unreached-requires c =
    let m = merged (graph_of c.args.self.now.model) c.args.first c.args.second in
    let one : c.from_vec-gone.result ≡ c.args.second ∷ [] = search rules in
    one ∙ sym (ap unreached c.in_ok-merge_holding.ensures.done ∙ c.dropping_takes_no_notice_of_the_vertex.ensures.unreached m hollow c.args.second c.requires.alone.alone)

pub returns : goal.returns
returns c =
    let g = graph_of c.args.self.now.model in
    let second = c.args.second in
    let m = merged g c.args.first second in
    let ks = second ∷ [] in
    let vs = c.from_vec-gone.result in
    let one : vs ≡ ks = search rules in
    let law = c.dropping_takes_no_notice_of_the_vertex.ensures in
    let valid : IsValid m = c.merging_keeps_the_meaning.ensures.valid g c.args.first second c.requires.valid c.requires.merging.holds in
    let empty : graph_of c.merge_holding.new.model ≡ hollowed m second = c.in_ok-merge_holding.ensures.done in
    let left : dropped (graph_of c.merge_holding.new.model) vs ≡ dropped m ks = ap (λ (h : EventGraph). dropped h vs) empty ∙ ap (dropped (hollowed m second)) one ∙ law.left m hollow second in
    let holds : first_failed (drop_conditions m ks) ≡ None = exactly_hold ks (unreached m) (λ e. cc) (sym c.requires.alone.alone) in
    let holds_there : first_failed (drop_conditions (graph_of c.merge_holding.new.model) vs) ≡ None =
    ap (λ (h : EventGraph). first_failed (drop_conditions h vs)) empty ∙ ap (λ (ks : List ℕ). first_failed (drop_conditions (hollowed m second) ks)) one ∙ ap first_failed (law.conditions m hollow second) ∙ holds in
    let facts : FactsAreRight (dropped m ks) c.keep_after_drop.new.facts =
    subst (λ (h : EventGraph). FactsAreRight h c.keep_after_drop.new.facts) left
    (subst (λ (ks : List ℕ). first_failed (drop_conditions (graph_of c.merge_holding.new.model) ks) ≡ None → FactsAreRight (dropped (graph_of c.merge_holding.new.model) ks) c.keep_after_drop.new.facts) c.as_slice.ensures c.keep_after_drop.ensures.facts holds_there) in
    let names : map (vertex_name (graph_of c.merge_holding.new.model)) vs ≡ vertex_name m second ∷ [] =
    ap (λ (h : EventGraph). map (vertex_name h) vs) empty ∙ ap (map (vertex_name (hollowed m second))) one ∙ ap (λ (name : List ℕ). name ∷ []) (hollow_named m second second) in
    let named : (k : ℕ) → vertex_name (graph_of c.merge_holding.new.model) k ≡ vertex_name g k = λ k. ap (λ (h : EventGraph). vertex_name h k) empty ∙ hollow_named m second k ∙ merged-named g c.args.first second k in
    let merge_noted = c.in_ok-note_merge.ensures ∙ ap₂ (λ (name other : List ℕ). map application_of c.args.self.now.applications.items ++ Merge name other ∷ []) (named c.args.first) (named second) in
    let noted = c.in_ok-note_drop.ensures ∙ ap₂ (λ (before : List RuleApplication) (names : List (List ℕ)). before ++ Drop names ∷ []) merge_noted names in
    on_ok_weaker c.drop_unreached.result
    (λ done. record {
      left = dropped_too (drop_made m _ ks _ _ valid (λ e. cc) (sym c.requires.alone.alone) (done ∙ left) noted);
      progress = progress-right (dropped m ks) _ _ _ facts c.requires.merging.counts (c.dropping_keeps_the_meaning.ensures.all_reached m ks valid holds) (done ∙ left);
      pairs = subst (λ (h : EventGraph). PairsAreRight h c.note_drop_after_merge.new.self) (sym (done ∙ left)) c.note_drop_after_merge.ensures;
    })
    c.drop_unreached.ensures.done
