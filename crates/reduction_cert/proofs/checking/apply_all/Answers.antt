-- One application more is made, or is the first bad one.
use Rattle.std.proofs.Common.{◌≡◌, ◌∙◌, ℕ, ◌+◌, Option, Some, None, option_map, Result, Ok, map, drop, ap, rules, arith}
use Rattle.std.proofs.lemmas.Grind.{common_steps}
use Rattle.sig_base.specs.declared.no_memory.NoMemory.{NoMemory}
use Rattle.sig_base.proofs.Lists.{remaining_more}
use Rattle.model_core.specs.Code.Views.{graph_of, application_of}
use Rattle.reduction_cert.proofs.ApplicationLoops.{left_none, bad_later, reached_later, bad_here, none_bad, all_reached}
use Rattle.reduction_cert.proofs.FewerVariables.{counts_serve, fewer}
use Rattle.reduction_cert.proofs.SameAfterDrop.{was_made, was_refused}
use Rattle.reduction_cert.proofs.checking.apply_all.Goals as goal

pub loop-place-preserved : goal.loop-place-preserved
loop-place-preserved c =
    let g = graph_of c.loop-place.model in
    let a = application_of c.index-applications-place.result in
    let left = map application_of (drop c.loop-place.place c.args.applications.now) in
    let later = map application_of (drop (c.loop-place.place + 1) c.args.applications.now) in
    let is = remaining_more application_of c.args.applications.now c.loop-place.place c.index-applications-place.result c.loop-place-test.true c.index-applications-place.is in
    let (next, made, serves) = was_made later g a _ (graph_of c.apply_with_next.new.model) c.if-not-branch.false c.in_ok-apply_with_next.ensures.made in
    record {
      listed = c.in_ok-find_places_anew.ensures g next made serves.names c.loop-place.invariant.listed;
      facts = c.in_ok-apply_with_next.ensures.facts;
      counts = counts_serve c.loop-place.model c.apply_with_next.new.model _ _ (fewer serves.variables (c.applications_add_no_variables.ensures g next a made)) c.in_ok-apply_with_next.ensures.counts c.loop-place.invariant.counts;
      bad = bad_later g a left later is next made _ c.loop-place.place c.loop-place.invariant.bad ∙ ap (option_map (λ k. k + (c.loop-place.place + 1))) serves.bad;
      reached = reached_later g a left later is next made _ c.loop-place.invariant.reached ∙ serves.reached;
    }

pub returns-then-not-branch-clause-bad : goal.returns-then-not-branch-clause-bad
returns-then-not-branch-clause-bad c =
    let g = graph_of c.loop-place.model in
    let a = application_of c.index-applications-place.result in
    let left = map application_of (drop c.loop-place.place c.args.applications.now) in
    let later = map application_of (drop (c.loop-place.place + 1) c.args.applications.now) in
    let is = remaining_more application_of c.args.applications.now c.loop-place.place c.index-applications-place.result c.loop-place-test.true c.index-applications-place.is in
    bad_here g a left later is (was_refused later g a _ (graph_of c.apply_with_next.new.model) c.if-not-branch.true c.in_ok-apply_with_next.ensures.made) _ c.loop-place.place c.loop-place.invariant.bad

never_none : (n : ℕ) → ◌≡◌ {A = Result (Option ℕ) NoMemory} (Ok (Some n)) (Ok None) → ⊥
never_none n e = cc

pub returns-then-not-branch-clause-reached : goal.returns-then-not-branch-clause-reached
returns-then-not-branch-clause-reached c = λ e. absurd (never_none (c.loop-place.place + 1) e)

pub returns-clause-bad : goal.returns-clause-bad
returns-clause-bad c =
    none_bad (graph_of c.loop-place.model) (map application_of (drop c.loop-place.place c.args.applications.now)) (left_none application_of c.args.applications.now c.loop-place.place c.loop-place-test.false)
    _ c.loop-place.place c.loop-place.invariant.bad

pub returns-clause-reached : goal.returns-clause-reached
returns-clause-reached c = λ _.
    all_reached (graph_of c.loop-place.model) (map application_of (drop c.loop-place.place c.args.applications.now)) (left_none application_of c.args.applications.now c.loop-place.place c.loop-place-test.false)
    _ c.loop-place.invariant.reached

pub loop-place-init : goal.loop-place-init
loop-place-init c = record {
  listed = search rules;
  facts = c.begin-facts.ensures (graph_of c.args.model.now);
  counts = c.new_counts_count_nothing.ensures _ _ c.in_ok-counts.ensures;
  bad = first_of (search rules, grind (arith, common_steps));
  reached = search rules;
}
