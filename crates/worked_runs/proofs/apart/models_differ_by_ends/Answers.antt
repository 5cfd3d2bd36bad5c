-- At stop time 5 two steps show the standing of each run.
use Rattle.std.proofs.Common.{◌≡◌, ℕ, zero, suc, pos, Some, IsTrue, [], ◌∷◌, replicate, refl, ap, lit<, lit≤}
use Rattle.sig_base.specs.declared.fault.FaultKind.TheVariants as faults
use Rattle.model_core.specs.EventGraph.{EventGraph}
use Rattle.model_core.specs.Run.Machine.{At, RunStatus, Ended, Stopped, Faulted, Look, Going, finished}
use Rattle.model_core.specs.Run.History.{Moment, allowed, next_move, look}
use Rattle.worked_runs.specs.Building.{showing}
use Rattle.worked_runs.specs.Pairs.{Apart, ends, stops, goes_on, divides, leaves, ends_at_4, divides_at_4}
use Rattle.worked_runs.proofs.Looks.{apart_by_ends, apart_by_going_on, circles}
use Rattle.worked_runs.proofs.apart.models_differ_by_ends.Goals as goal

-- the look, where the clock left 0
abbrev from_five : RunStatus → Look
from_five standing = showing (At 0 [] ∷ []) standing

finish_apart : (g h : EventGraph) (a b : RunStatus) → look g 42 [] 5 2 ≡ from_five a → look h 42 [] 5 2 ≡ from_five b → IsTrue (finished a) → IsTrue (finished b) → (a ≡ b → ⊥) → IsTrue (allowed g []) → IsTrue (allowed h []) → Apart g h
finish_apart g h a b at_a at_b fin fin_too differ ok ok_too =
    apart_by_ends g h 42 (lit< tt) [] ok ok_too 5 (lit≤ tt) 2 2 (from_five a) (from_five b) at_a at_b fin fin_too (λ e. differ (ap (λ (l : Look). l.standing) e))

-- where A comes again at once, and nothing else
abbrev again : Moment
again = record {
  now = record { clock = 5; state = (pos 0 ∷ []) ∷ []; taken = replicate 64 0; pending = record { time = 5; priority = 0; vertex = 1; values = [] } ∷ [] };
  noted = Some [];
}

goes_on_for_ever : (n : ℕ) → (look goes_on 42 [] 5 n).standing ≡ Going
goes_on_for_ever zero = refl
goes_on_for_ever (suc zero) = refl
goes_on_for_ever (suc (suc n)) = ap (λ (l : Look). l.standing) (circles (next_move goes_on 42 5) again refl n)

going_on_apart : (g : EventGraph) → IsTrue (finished (look g 42 [] 5 2).standing) → IsTrue (allowed g []) → Apart g goes_on
going_on_apart g fin ok = apart_by_going_on g goes_on 42 (lit< tt) [] ok refl 5 (lit≤ tt) 2 fin goes_on_for_ever

pub returns-clause-ended_or_stopped : goal.returns-clause-ended_or_stopped
returns-clause-ended_or_stopped c = finish_apart ends stops (Ended 5) Stopped refl refl refl refl (λ e. cc) refl refl

pub returns-clause-ended_or_going_on : goal.returns-clause-ended_or_going_on
returns-clause-ended_or_going_on c = going_on_apart ends refl refl

pub returns-clause-ended_or_failed : goal.returns-clause-ended_or_failed
returns-clause-ended_or_failed c = finish_apart ends divides (Ended 5) (Faulted 5 faults.DivisionByZero) refl refl refl refl (λ e. cc) refl refl

pub returns-clause-stopped_or_going_on : goal.returns-clause-stopped_or_going_on
returns-clause-stopped_or_going_on c = going_on_apart stops refl refl

pub returns-clause-stopped_or_failed : goal.returns-clause-stopped_or_failed
returns-clause-stopped_or_failed c = finish_apart stops divides Stopped (Faulted 5 faults.DivisionByZero) refl refl refl refl (λ e. cc) refl refl

pub returns-clause-failed_or_going_on : goal.returns-clause-failed_or_going_on
returns-clause-failed_or_going_on c = going_on_apart divides refl refl

pub returns-clause-failed_otherwise : goal.returns-clause-failed_otherwise
returns-clause-failed_otherwise c =
    finish_apart divides leaves (Faulted 5 faults.DivisionByZero) (Faulted 5 faults.RangeOutside) refl refl refl refl (λ e. cc) refl refl

pub returns-clause-ended_earlier : goal.returns-clause-ended_earlier
returns-clause-ended_earlier c = finish_apart ends_at_4 ends (Ended 4) (Ended 5) refl refl refl refl (λ e. cc) refl refl

pub returns-clause-failed_earlier : goal.returns-clause-failed_earlier
returns-clause-failed_earlier c =
    finish_apart divides_at_4 divides (Faulted 4 faults.DivisionByZero) (Faulted 5 faults.DivisionByZero) refl refl refl refl (λ e. cc) refl refl
