-- From a run that was followed, from any moment on, to the history that is delivered.
use Rattle.std.proofs.Common.{◌≡◌, inl, inr, ℕ, append_assoc, ◌+◌, ◌<◌, ◌≤◌, List, ◌++◌, length, take, drop, Option, Some, None, Result, Ok, Err, refl, sym, ap, ◌∙◌, subst, arith}
use Rattle.std.specs.List.{flat_map}
use Rattle.std.proofs.lemmas.Bool.{cases_lt}
use Rattle.std.proofs.lemmas.Grind.{flat_map-append}
use Rattle.std.proofs.lemmas.List.{take-append-drop, length-take, take_all}
use Rattle.std.proofs.Math.Seq.{take-append_seam, take-length}
use Rattle.sig_base.specs.Sink.{Outlet, GrowsBy}
use Rattle.model_core.specs.Text.HistoryText.{note_line, end_line, history_text}
use Rattle.run_control.specs.Running.{Running}
use Rattle.watch_trace.specs.declared.outcome.Outcome.{Outcome}
use Rattle.watch_trace.specs.declared.outcome.Outcome.TheVariants as outcomes
use Rattle.watch_trace.specs.Tracing.{Tracing, moment_of}
use Rattle.watch_trace.specs.Following.{outcome_of, run_look, Writes, WritesAll, StepsLead}
use Rattle.run_laws.proofs.HistoryBytes.{history_has_bytes}
use Rattle.answer_delivery.specs.declared.status.Failure.TheVariants as failures
use Rattle.answer_delivery.specs.declared.status.Status.TheVariants as statuses
use Rattle.job_answers.specs.RunAnswer.{end_of, answer_of_look, refused_or, ExceedsRoomFrom}
use Rattle.job_answers.specs.Inner.WritingSteps.{StreamsBytes}
use Rattle.job_answers.specs.Inner.RunSteps.{ending, DeliversHistory}
use Rattle.job_answers.proofs.ModelTerms.{EventGraph, graph_of, Note, Look, RunStatus, Ended, Stopped, Faulted, Going, Moment, look_from}
use Rattle.job_answers.proofs.AnswerTerms.{Given, End, Failure, DeliveryOutcome, status_of_answer, GrowsByFront, Closed}
use Rattle.job_answers.proofs.GivenAnswers.{given_is_no_refusal, some_bytes, end_unrefused}
use Rattle.job_answers.proofs.Streaming.{closed, closed_in_memory, stream_fails, stopped_short}

-- ---- what is written

-- the lines of the first notes are a front of the text
notes_front : (f : Note → List ℕ) (notes : List Note) (k : ℕ) (end : List ℕ) → take (length (flat_map f (take k notes))) (flat_map f notes ++ end) ≡ flat_map f (take k notes)
notes_front f notes k end =
    let whole : flat_map f notes ≡ flat_map f (take k notes) ++ flat_map f (drop k notes) = ap (flat_map f) (sym (take-append-drop k notes)) ∙ flat_map-append f (take k notes) (drop k notes) in
    ap (λ t. take (length (flat_map f (take k notes))) (t ++ end)) whole
    ∙ ap (take (length (flat_map f (take k notes)))) (append_assoc (flat_map f (take k notes)) (flat_map f (drop k notes)) end)
    ∙ take-append_seam (flat_map f (take k notes)) (flat_map f (drop k notes) ++ end)

front_fits : (f : Note → List ℕ) (notes : List Note) (k : ℕ) (end : List ℕ) → length (flat_map f (take k notes)) ≤ length (flat_map f notes ++ end)
front_fits f notes k end =
    let whole = ap length (notes_front f notes k end) in
    let cut = length-take (length (flat_map f (take k notes))) (flat_map f notes ++ end) in
    omega (arith, whole, cut)

-- a front of as many bytes as there are at most
a_front : (o p : Outlet) (n : ℕ) (bytes : List ℕ) → GrowsBy o.written p.written (take n bytes) → GrowsByFront o p bytes
a_front o p n bytes grows = elim (cases_lt (length bytes) n) [ inl long ↦ (length bytes, omega arith, subst (GrowsBy o.written p.written) (take_all n bytes (omega (arith, long)) ∙ sym (take-length bytes)) grows) | inr short ↦ (n, short, grows) ]

-- how a job ends follows from the outcome of its run
ending_of_outcome : (s : RunStatus) → ending (outcome_of s) ≡ Ok (end_of s)
ending_of_outcome (Ended t) = refl
ending_of_outcome Stopped = refl
ending_of_outcome (Faulted t kind) = refl
ending_of_outcome Going = refl

module _ {K : Type 0} (sight : K → Outlet) (g : EventGraph) (until events : ℕ) (seen : Look) (o p : K) (Short : Type 0) where
  all_streamed : (outcome : Outcome) → WritesAll g until events seen outcome (sight o) (sight p)
      → StreamsBytes sight (end_of seen.standing) (history_text g until events seen) Short (ending outcome) o p
  all_streamed outcome h =
      subst (λ (r : Result End Failure). StreamsBytes sight (end_of seen.standing) (history_text g until events seen) Short r o p) (sym (ap ending h.answers ∙ ending_of_outcome seen.standing)) (refl, h.grows, h.unsettled, h.steady)

  history_streamed : (outcome : Outcome) → Writes g until events seen outcome (sight o) (sight p)
      → (outcome ≡ outcomes.NoMemory → Short) → StreamsBytes sight (end_of seen.standing) (history_text g until events seen) Short (ending outcome) o p
  history_streamed (outcomes.Ended t) h short = all_streamed (outcomes.Ended t) h
  history_streamed outcomes.Stopped h short = all_streamed outcomes.Stopped h
  history_streamed (outcomes.Faulted t kind) h short = all_streamed (outcomes.Faulted t kind) h
  history_streamed outcomes.Budget h short = all_streamed outcomes.Budget h
  history_streamed outcomes.WriteFault h short = (a_front (sight o) (sight p) h.bytes (history_text g until events seen) h.grows, h.unsettled, h.risen)
  history_streamed outcomes.NoMemory h short =
      let end = end_line until events seen.standing in
      let lines = flat_map (note_line g) (take h.notes seen.history) in
      (inr (short refl, (length lines, front_fits (note_line g) seen.history h.notes end, subst (GrowsBy (sight o).written (sight p).written) (sym (notes_front (note_line g) seen.history h.notes end)) h.grows)), h.steady)

-- ---- the run

-- a run that lacked memory as it was followed exceeds the room that it had
exceeds : (until events room : ℕ) (r later : Running) (t after : Tracing) → room ≤ r.spare + length r.now.pending → StepsLead until events r t outcomes.NoMemory later after → ExceedsRoomFrom (graph_of r.model) until r.seed events (moment_of r t) room
exceeds until events room r later t after roomy h = record {
  steps = h.steps;
  within = h.after_steps.1;
  here = h.here;
  lead = h.lead;
  next = h.after_steps.2.next;
  comes = h.after_steps.2.comes;
  due = h.after_steps.2.due;
  exceeds = omega (arith, h.after_steps.2.lacks, roomy);
}

-- the text of the history from this moment on is written as it comes
abbrev pub StreamsFrom : {K : Type 0} → (K → Outlet) → EventGraph → ℕ → ℕ → ℕ → Moment → ℕ → Result End Failure → K → K → Type 0
StreamsFrom sight g until seed events m room r o p =
    let seen = look_from g seed until events m in
    StreamsBytes sight (end_of seen.standing) (history_text g until events seen) (ExceedsRoomFrom g until seed events m room) r o p

-- What following a run wrote is its history from that moment on.
pub streamed_from : {K : Type 0} (sight : K → Outlet) (until events room : ℕ) (r later : Running) (t after : Tracing) (outcome : Outcome) (o p : K) → room ≤ r.spare + length r.now.pending
    → Writes (graph_of r.model) until events (run_look until events r t) outcome (sight o) (sight p)
    → StepsLead until events r t outcome later after → (ended : Result End Failure) → ended ≡ ending outcome → StreamsFrom sight (graph_of r.model) until r.seed events (moment_of r t) room ended o p
streamed_from sight until events room r later t after outcome o p roomy writes stands ended is =
    let Short : Type 0 = ExceedsRoomFrom (graph_of r.model) until r.seed events (moment_of r t) room in
    let short : outcome ≡ outcomes.NoMemory → Short = λ is. exceeds until events room r later t after roomy (subst (λ (x : Outcome). StepsLead until events r t x later after) is stands) in
    subst (λ (e : Result End Failure). StreamsFrom sight (graph_of r.model) until r.seed events (moment_of r t) room e o p) (sym is) (history_streamed sight (graph_of r.model) until events (run_look until events r t) o p Short outcome writes short)

-- ---- the answer

same_failure : (f g : Failure) → ◌≡◌ {A = Result DeliveryOutcome Failure} (Err f) (Err g) → f ≡ g
same_failure f g e = cc

module _ {K : Type 0} (sight : K → Outlet) (g : EventGraph) (until seed events : ℕ) (m : Moment) (room : ℕ) where
  abbrev Seen : Look
  Seen = look_from g seed until events m

  abbrev Short : Type 0
  Short = ExceedsRoomFrom g until seed events m room

  -- the history could not be written
  pub history_failed : (f : Failure) (o p : K) → StreamsFrom sight g until seed events m room (Err f) o p → DeliversHistory sight g until seed events m room (Err f) o p
  history_failed f o p h = inl (record {
    answer = answer_of_look g until events Seen;
    holds = refl;
    delivers = stream_fails sight o p (end_of Seen.standing) (history_text g until events Seen) Short f h;
    short = λ e. stopped_short sight o p (end_of Seen.standing) (history_text g until events Seen) Short (Err f) h (ap (λ (x : Failure). Err x) (same_failure f failures.NoMemory e));
  })

  -- it is written, and the output is closed
  pub history_closed : (end : End) (r : Result DeliveryOutcome Failure) (o n p : K) → StreamsFrom sight g until seed events m room (Ok end) o n → Closed end r (sight n) (sight p) → DeliversHistory sight g until seed events m room r o p
  history_closed end r o n p h k = inl (record {
    answer = answer_of_look g until events Seen;
    holds = refl;
    delivers = closed sight o n p (end_of Seen.standing) (history_text g until events Seen) h.1 (λ some. h.2) h.3 r (subst (λ (e : End). Closed e r (sight n) (sight p)) h.0 k);
    short = λ e. absurd (closed_in_memory end (sight n) (sight p) r k e);
  })

-- ---- its laws

-- a history has bytes, and what isn't refused is no refusal
pub look_has_bytes : (g : EventGraph) (until events : ℕ) (refusal : Option (List ℕ)) (seen : Look) (end : End) (bytes : List ℕ) → Given end bytes ≡ refused_or refusal (answer_of_look g until events seen) → 0 < length bytes
look_has_bytes g until events (Some line) seen end bytes h = absurd (given_is_no_refusal h)
look_has_bytes g until events None seen end bytes h = some_bytes (history_has_bytes g until events seen) h

pub look_unrefused : (g : EventGraph) (until events : ℕ) (refusal : Option (List ℕ)) (seen : Look) → status_of_answer (refused_or refusal (answer_of_look g until events seen)) ≡ statuses.Refused → ⊥
look_unrefused g until events None seen e = end_unrefused (end_of seen.standing) e
look_unrefused g until events (Some line) seen e = cc
