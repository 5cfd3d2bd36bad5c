-- A run that was followed from its beginning wrote what is shown of it, and where it goes on also the line of its budget.
use Rattle.std.proofs.Common.{◌≡◌, ℕ, ◌-◌, ℤ, true, cond, List, [], ◌++◌, length, take, Option, Some, None, refl, sym, ap, ap₂, ◌∙◌, subst, arith, append-nil}
use Rattle.std.proofs.lemmas.List.{length-append}
use Rattle.std.proofs.lemmas.Option.{same_Some}
use Rattle.std.proofs.Math.Seq.{take-append_seam}
use Rattle.std.specs.Prelude.{IfSome, IfOk, Result, Ok, Err, codes, decimal}
use Rattle.std.specs.List.{flat_map}
use Rattle.sig_base.specs.Sink.{Outlet}
use Rattle.model_core.specs.declared.model.Model.{Model}
use Rattle.model_core.specs.EventGraph.{EventGraph}
use Rattle.model_core.specs.Code.Views.{graph_of}
use Rattle.model_core.specs.Run.Machine.{RunStatus, Ended, Stopped, Faulted, Going, Look, finished}
use Rattle.model_core.specs.Run.Step.{Configuration}
use Rattle.model_core.specs.Run.History.{Moment, start, look, look_from}
use Rattle.model_core.specs.Text.HistoryText.{note_line, end_line, history_text}
use Rattle.run_control.specs.Beginning.{BegunRun}
use Rattle.run_control.specs.Running.{Running}
use Rattle.watch_trace.specs.declared.outcome.Outcome.{Outcome}
use Rattle.watch_trace.specs.declared.outcome.Outcome.TheVariants as outcomes
use Rattle.watch_trace.specs.Tracing.{Tracing, moment_of}
use Rattle.watch_trace.specs.Following.{outcome_of, run_look, Writes, WritesAll}
use Rattle.model_pairs.specs.RunsApart.{shown_text}
use Rattle.model_pairs.specs.Inner.WrittenRuns.{IsShownOf}

-- a run at its beginning, with a tracer that noted nothing
at_start : (g : EventGraph) (starts : List ℤ) (r : Running) (t : Tracing) → r.now ≡ (start g starts).now → t.noted ≡ None → moment_of r t ≡ start g starts
at_start g starts r t now noted =
    let moment : Configuration → Option (List (List ℤ)) → Moment = λ c n. record { now = c; noted = n } in
    ap₂ moment now noted

-- what is seen of it is the look at the run
pub look_of_begun : (m : Model) (until events room : ℕ) (starts : List ℤ) (r : Running) (t : Tracing) → BegunRun m r.seed starts room r → t.noted ≡ None
    → run_look until events r t ≡ look (graph_of m) r.seed starts until events
look_of_begun m until events room starts r t begun noted =
    let here : moment_of r t ≡ start (graph_of m) starts = at_start (graph_of m) starts r t begun.now noted in
    ap (λ (n : Model). look_from (graph_of n) r.seed until events (moment_of r t)) begun.model ∙ ap (look_from (graph_of m) r.seed until events) here

module _ (g : EventGraph) (until events : ℕ) (seen : Look) (old new : Outlet) (written : List ℕ) (empty : old.written ≡ Some []) (holds : new.written ≡ Some written) where
  -- all that was written is the text of the history
  text_written : (outcome : Outcome) → WritesAll g until events seen outcome old new → written ≡ history_text g until events seen
  text_written outcome w =
      let grown : new.written ≡ Some ([] ++ history_text g until events seen) = subst (λ (o : Option (List ℕ)). IfSome o (λ bytes. new.written ≡ Some (bytes ++ history_text g until events seen))) empty w.grows in
      same_Some _ _ (sym holds ∙ grown)

  -- where a run is finished, all of that is shown
  whole : (text : List ℕ) → finished seen.standing ≡ true → written ≡ history_text g until events seen → text ≡ written → text ≡ shown_text g until events seen
  whole text over is all = all ∙ is ∙ ap (λ b. flat_map (note_line g) seen.history ++ cond b (end_line until events seen.standing) []) (sym over)

  -- where it goes on, the lines of its notes are shown
  without_end : (text : List ℕ) → seen.standing ≡ Going → written ≡ history_text g until events seen
      → text ≡ take (length written - length (codes "budget " ++ decimal events ++ codes "\n")) written → text ≡ shown_text g until events seen
  without_end text goes is cut =
      let notes = flat_map (note_line g) seen.history in
      let end = codes "budget " ++ decimal events ++ codes "\n" in
      let all : written ≡ notes ++ end = is ∙ ap (λ s. notes ++ end_line until events s) goes in
      let long : length (notes ++ end) - length end ≡ length notes = omega (arith, length-append notes end) in
      cut ∙ ap (λ (w : List ℕ). take (length w - length end) w) all ∙ ap (λ n. take n (notes ++ end)) long ∙ take-append_seam notes end
      ∙ sym (append-nil notes) ∙ ap (λ s. notes ++ cond (finished s) (end_line until events s) []) (sym goes)

  -- an outcome other than a spent budget is that of a finished run
  over : (s : RunStatus) (outcome : Outcome) → outcome ≡ outcome_of s → (outcome ≡ outcomes.Budget → ⊥) → finished s ≡ true
  over (Ended u) outcome e other = refl
  over Stopped outcome e other = refl
  over (Faulted u kind) outcome e other = refl
  over Going outcome e other = absurd (other e)

  goes_on : (s : RunStatus) → outcomes.Budget ≡ outcome_of s → s ≡ Going
  goes_on (Ended u) e = absurd cc
  goes_on Stopped e = absurd cc
  goes_on (Faulted u kind) e = absurd cc
  goes_on Going e = refl

  -- what is shown of what was written is what the run shows
  pub shown_written : (outcome : Outcome) (text : List ℕ) → Writes g until events seen outcome old new → IsShownOf outcome events written text → text ≡ shown_text g until events seen
  shown_written outcomes.WriteFault text w is = absurd is
  shown_written outcomes.NoMemory text w is = absurd is
  shown_written outcomes.Budget text w is = without_end text (goes_on seen.standing w.answers) (text_written outcomes.Budget w) is
  shown_written (outcomes.Ended t) text w is = whole text (over seen.standing (outcomes.Ended t) w.answers (λ e. cc)) (text_written (outcomes.Ended t) w) is
  shown_written outcomes.Stopped text w is = whole text (over seen.standing outcomes.Stopped w.answers (λ e. cc)) (text_written outcomes.Stopped w) is
  shown_written (outcomes.Faulted t kind) text w is = whole text (over seen.standing (outcomes.Faulted t kind) w.answers (λ e. cc)) (text_written (outcomes.Faulted t kind) w) is

-- what a run that begins so and is followed shows
pub shown_of_run : (m : Model) (until events room : ℕ) (starts : List ℤ) (r : Running) (t : Tracing) (outcome : Outcome) (old new : Outlet) (written text : List ℕ)
    → BegunRun m r.seed starts room r → t.noted ≡ None → old.written ≡ Some [] → new.written ≡ Some written
    → Writes (graph_of r.model) until events (run_look until events r t) outcome old new → IsShownOf outcome events written text
    → text ≡ shown_text (graph_of m) until events (look (graph_of m) r.seed starts until events)
shown_of_run m until events room starts r t outcome old new written text begun noted empty holds w is =
    shown_written (graph_of r.model) until events (run_look until events r t) old new written empty holds outcome text w is
    ∙ ap₂ (λ (n : Model) (l : Look). shown_text (graph_of n) until events l) begun.model (look_of_begun m until events room starts r t begun noted)

-- what follows from the value of an `Ok`
pub ok_gives : {A E : Type 0} (P Q : A → Type 0) (r : Result A E) → ((a : A) → P a → Q a) → IfOk r P → IfOk r Q
ok_gives P Q (Ok a) gives h = gives a h
ok_gives P Q (Err e) gives h = tt
