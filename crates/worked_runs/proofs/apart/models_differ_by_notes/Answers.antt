-- The notes of each run are computed. The first ones decide for a run that goes on for ever.
use Rattle.std.proofs.Common.{◌≡◌, ℕ, zero, suc, None, IsTrue, List, [], ◌∷◌, ◌++◌, replicate, refl, ap, lit<, lit≤}
use Rattle.model_core.specs.EventGraph.{EventGraph}
use Rattle.model_core.specs.Run.Machine.{Note, At, On, Ended, Look, finished}
use Rattle.model_core.specs.Run.History.{Moment, next_move, allowed, look}
use Rattle.model_core.specs.Run.Same.{Begins}
use Rattle.worked_runs.specs.Building.{scalars, showing, whole, set, schedule}
use Rattle.worked_runs.specs.Models.{changing, ordering}
use Rattle.worked_runs.specs.Pairs.{Apart, a_first, b_first, silent}
use Rattle.worked_runs.proofs.Looks.{circles, other_notes, apart_by_ends, apart_by_notes, nothing_begins}
use Rattle.worked_runs.proofs.apart.models_differ_by_notes.Goals as goal

-- in five steps both are finished
notes_apart : (g h : EventGraph) (a b : Look) → look g 42 [] 100 5 ≡ a → look h 42 [] 100 5 ≡ b → IsTrue (finished a.standing) → IsTrue (finished b.standing) → (a.history ≡ b.history → ⊥) → IsTrue (allowed g []) → IsTrue (allowed h []) → Apart g h
notes_apart g h a b at_a at_b fin fin_too differ ok ok_too =
    apart_by_ends g h 42 (lit< tt) [] ok ok_too 100 (lit≤ tt) 5 5 a b at_a at_b fin fin_too (other_notes a b differ)

-- the first event comes again at once, and nothing else
abbrev once_more : Moment
once_more = record {
  now = record { clock = 0; state = []; taken = replicate 64 0; pending = record { time = 0; priority = 0; vertex = 0; values = [] } ∷ [] };
  noted = None;
}

silent_for_ever : (n : ℕ) → (look silent 42 [] 100 n).history ≡ []
silent_for_ever zero = refl
silent_for_ever (suc n) = ap (λ (l : Look). l.history) (circles (next_move silent 42 100) once_more refl n)

other_head : (rest later : List Note) → (On 0 0 [] ∷ []) ++ rest ≡ On 0 1 [] ∷ later → ⊥
other_head rest later e = cc

b_is_first : (n : ℕ) → Begins (On 0 0 [] ∷ []) (look b_first 42 [] 100 n).history → ⊥
b_is_first zero (rest, e) = cc
b_is_first (suc zero) (rest, e) = cc
b_is_first (suc (suc n)) (rest, e) = other_head rest _ e

pub returns-clause-another_value : goal.returns-clause-another_value
returns-clause-another_value c =
    notes_apart (changing (set 0 (whole 2) ∷ [])) (changing (set 0 (whole 3) ∷ [])) (showing (At 0 (scalars (2 ∷ [])) ∷ []) (Ended 0)) (showing (At 0 (scalars (3 ∷ [])) ∷ []) (Ended 0)) refl refl refl refl (λ e. cc) refl refl

pub returns-clause-another_order : goal.returns-clause-another_order
returns-clause-another_order c =
    notes_apart (ordering (schedule 1 (whole 2) ∷ schedule 2 (whole 2) ∷ [])) (ordering (schedule 2 (whole 2) ∷ schedule 1 (whole 2) ∷ [])) (showing (At 0 [] ∷ On 2 0 [] ∷ On 2 1 [] ∷ []) (Ended 2)) (showing (At 0 [] ∷ On 2 1 [] ∷ On 2 0 [] ∷ []) (Ended 2)) refl refl refl refl (λ e. cc) refl refl

pub returns-clause-one_more : goal.returns-clause-one_more
returns-clause-one_more c =
    notes_apart (ordering (schedule 1 (whole 2) ∷ [])) (ordering (schedule 1 (whole 2) ∷ schedule 1 (whole 2) ∷ [])) (showing (At 0 [] ∷ On 2 0 [] ∷ []) (Ended 2)) (showing (At 0 [] ∷ On 2 0 [] ∷ On 2 0 [] ∷ []) (Ended 2)) refl refl refl refl (λ e. cc) refl refl

pub returns-clause-some_or_none_for_ever : goal.returns-clause-some_or_none_for_ever
returns-clause-some_or_none_for_ever c =
    apart_by_notes a_first silent 42 (lit< tt) [] refl refl 100 (lit≤ tt) 2 (λ m. nothing_begins (look silent 42 [] 100 m).history (silent_for_ever m))

pub returns-clause-another_order_for_ever : goal.returns-clause-another_order_for_ever
returns-clause-another_order_for_ever c = apart_by_notes a_first b_first 42 (lit< tt) [] refl refl 100 (lit≤ tt) 2 b_is_first
