-- Both machines stop after the first event, at each stop time up to the last.
use Rattle.std.proofs.Common.{◌≡◌, ℕ, ◌^◌, ◌≤◌, ◌<◌, ℤ, None, IsTrue, List, [], ◌∷◌, replicate, refl, ◌∙◌, ap, arith, zero-add}
use Rattle.std.proofs.lemmas.Bool.{lt-ltb}
use Rattle.sig_base.proofs.Tests.{nat_lt-zero}
use Rattle.model_core.specs.Run.Pending.{Entry}
use Rattle.model_core.specs.Run.Machine.{At, Stopped, Rests, Goes}
use Rattle.model_core.specs.Run.History.{Moment, next_move, allowed, look}
use Rattle.model_core.specs.Run.Same.{SameLooks}
use Rattle.run_laws.proofs.Simulation.{Answers, rests, goes, lock_step_same}
use Rattle.worked_runs.specs.Pairs.{due_after}
use Rattle.worked_runs.proofs.Looks.{answered_by}
use Rattle.worked_runs.proofs.alike.later_events_are_unseen.Goals as goal

-- at clock 0, with one event that is pending
abbrev with_one : Entry → Moment
with_one e = record { now = record { clock = 0; state = []; taken = replicate 64 0; pending = e ∷ [] }; noted = None }

abbrev beginning : Moment
beginning = with_one (record { time = 0; priority = 5; vertex = 0; values = [] })

-- A is due at this time
abbrev waiting : ℕ → Moment
waiting time = with_one (record { time = time; priority = 5; vertex = 1; values = [] })

-- the moments of models whose event A is due at these times
data Waiting (one_time other_time : ℕ) : Moment → Moment → Type 0 where
  begun : {s t : Moment} → s ≡ beginning → t ≡ beginning → Waiting one_time other_time s t
  both_wait : {s t : Moment} → s ≡ waiting one_time → t ≡ waiting other_time → Waiting one_time other_time s t

scheduled_then : (time seed until : ℕ) → next_move (due_after time) seed until beginning ≡ Goes [] (waiting time)
scheduled_then time seed until = rw (nat_lt-zero until) (ap (λ (t : ℕ). Goes [] (waiting t)) (zero-add time))

never_due : (time seed until : ℕ) → until < time → next_move (due_after time) seed until (waiting time) ≡ Rests (At 0 [] ∷ []) Stopped
never_due time seed until later = rw (lt-ltb until time later) refl

module _ (one other : ℕ) (one_later : 2 ^ 48 < one) (other_later : 2 ^ 48 < other) where
  answers : (seed until : ℕ) → until ≤ 2 ^ 48 → (s t : Moment) → Waiting one other s t → Answers (Waiting one other) (next_move (due_after one) seed until s) (next_move (due_after other) seed until t)
  answers seed until early s t (begun a b) =
      let f = next_move (due_after one) seed until in
      let g = next_move (due_after other) seed until in
      answered_by f g (Waiting one other) s t (ap f a ∙ scheduled_then one seed until) (ap g b ∙ scheduled_then other seed until) (goes [] (both_wait refl refl))
  answers seed until early s t (both_wait a b) =
      let f = next_move (due_after one) seed until in
      let g = next_move (due_after other) seed until in
      answered_by f g (Waiting one other) s t (ap f a ∙ never_due one seed until (omega arith)) (ap g b ∙ never_due other seed until (omega arith)) (rests (At 0 [] ∷ []) Stopped)

  runs_alike : (seed until : ℕ) → until ≤ 2 ^ 48 → (starts : List ℤ) → IsTrue (allowed (due_after one) starts) → SameLooks (λ n. look (due_after one) seed starts until n) (λ n. look (due_after other) seed starts until n)
  runs_alike seed until early [] ok = lock_step_same (next_move (due_after one) seed until) (next_move (due_after other) seed until) (Waiting one other) (answers seed until early) beginning beginning (begun refl refl)
  runs_alike seed until early (x ∷ xs) ok = absurd cc

pub returns : goal.returns
returns c = λ one other one_later other_later. record {
  watched = refl;
  started = refl;
  runs = λ seed fits starts ok until early. runs_alike one other one_later other_later seed until early starts ok;
}
