use Rattle.std.proofs.Common.{◌≡◌, ◌≤◌, le_trans, ap, ap₂, sym, ◌∙◌, subst, max, All, ℕ, Result, Ok, Err}
use Rattle.std.specs.Prelude.{IfOk}
use Rattle.sig_base.specs.declared.limits.TheConstants.{STOP_MAX}
use Rattle.tally_report.specs.declared.run_tally.RunEnd.{RunEnd}
use Rattle.tally_report.specs.declared.run_tally.RunTally.{RunTally}
use Rattle.tally_report.specs.SmallAreas.{IsOfRuns}
use Rattle.tally_report.specs.Inner.Sums.{IsSmall}
use Rattle.tally_report.specs.Inner.RunEnds.{time_reached}
use Rattle.tally_report.specs.Inner.Sums.{tally_of_sums}
use Rattle.tally_report.proofs.RunTallied.{tallied_from_beginning, FewCounted, all_of_one_run}
use Rattle.tally_report.proofs.tallying.follow.Goals as goal

pub returns-clause-tally : goal.returns-clause-tally
returns-clause-tally c =
    let seen = c.observe-outcome in
    let shows = seen.ensures.takes in
    let seen_tally = tallied_from_beginning c.args.model.now c.requires.begun.0 c.requires.begun.1 c.args.until c.args.events c.args.run.now c.in_ok-tracer.tracer c.in_ok-taker.taker seen.new.taker seen.result shows.notes shows.rest
    c.requires.begun.2 (ap (λ t. t.noted) c.in_ok-tracer.ensures) c.in_ok-taker.ensures c.requires.budget c.in_default.not-WriteFault c.in_default.not-NoMemory shows.splits shows.completes shows.taken in
    let same = ap₂ (λ (e : RunEnd) (n : ℕ). tally_of_sums e n seen.new.taker) c.end_reached.ensures (c.time_reached.ensures ∙ ap (λ (n : ℕ). time_reached seen.result c.args.until n) c.latest.ensures) in
    subst (λ (run : RunTally). IfOk c.tally.result (λ tally. tally ≡ run)) (same ∙ seen_tally.0) c.tally.ensures.tally

pub returns-clause-small : goal.returns-clause-small
returns-clause-small c =
    let seen = c.observe-outcome in
    let shows = seen.ensures.takes in
    let seen_tally = tallied_from_beginning c.args.model.now c.requires.begun.0 c.requires.begun.1 c.args.until c.args.events c.args.run.now c.in_ok-tracer.tracer c.in_ok-taker.taker seen.new.taker seen.result shows.notes shows.rest
    c.requires.begun.2 (ap (λ t. t.noted) c.in_ok-tracer.ensures) c.in_ok-taker.ensures c.requires.budget c.in_default.not-WriteFault c.in_default.not-NoMemory shows.splits shows.completes shows.taken in
    let same = ap₂ (λ (e : RunEnd) (n : ℕ). tally_of_sums e n seen.new.taker) c.end_reached.ensures (c.time_reached.ensures ∙ ap (λ (n : ℕ). time_reached seen.result c.args.until n) c.latest.ensures) in
    let time : c.time_reached.result ≡ time_reached seen.result c.args.until seen.new.taker.latest = c.time_reached.ensures ∙ ap (λ (n : ℕ). time_reached seen.result c.args.until n) c.latest.ensures in
    let by : max seen.new.taker.since c.time_reached.result ≤ STOP_MAX = le_trans (subst (λ (n : ℕ). max seen.new.taker.since n ≤ c.args.until) (sym time) seen_tally.1) c.requires.soon in
    small-so c.tally.result (max seen.new.taker.since c.time_reached.result) by (same ∙ seen_tally.0) seen_tally.2 c.tally.ensures.tally c.tally.ensures.small
  where
    small-so : {E : Type 0} (r : Result RunTally E) (n : ℕ) {seen_tally tally : RunTally} → n ≤ STOP_MAX → seen_tally ≡ tally → All FewCounted tally.items → IfOk r (λ run. run ≡ seen_tally) → IfOk r (λ run. All (IsSmall n) run.items) → IfOk r (λ run. All (IsOfRuns 1) run.items)
    small-so (Ok run) n le same few is small = all_of_one_run n run.items le small (subst (λ (run : RunTally). All FewCounted run.items) (sym (is ∙ same)) few)
    small-so (Err e) n le same few is small = tt
