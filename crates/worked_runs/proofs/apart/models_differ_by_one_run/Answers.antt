-- Both looks at the run are computed.
use Rattle.std.proofs.Common.{◌≡◌, ℕ, ◌+◌, ◌-◌, ◌^◌, ◌<◌, ℤ, pos, false, IsTrue, List, [], ◌∷◌, refl, lit<, lit≤}
use Rattle.rand_pcg.specs.Lcg.{state_after}
use Rattle.model_core.specs.EventGraph.{EventGraph, Truth}
use Rattle.model_core.specs.Run.Machine.{At, On, Ended, Stopped}
use Rattle.model_core.specs.Run.History.{allowed, look}
use Rattle.worked_runs.specs.Building.{showing}
use Rattle.worked_runs.specs.Pairs.{Apart, due_after, taking_x, equals_x, drawing, equals_x_and_y}
use Rattle.worked_runs.proofs.Looks.{other_notes, apart_by_ends}
use Rattle.worked_runs.proofs.apart.models_differ_by_one_run.Goals as goal

a_shows : (On 0 0 [] ∷ At 0 [] ∷ []) ≡ (At 0 [] ∷ []) → ⊥
a_shows e = cc

-- in two steps both end at 0, of which the first shows A
a_or_not : (g h : EventGraph) (seed : ℕ) → seed < 2 ^ 64 → (starts : List ℤ) → look g seed starts 100 2 ≡ showing (On 0 0 [] ∷ At 0 [] ∷ []) (Ended 0) → look h seed starts 100 2 ≡ showing (At 0 [] ∷ []) (Ended 0) → IsTrue (allowed g starts) → IsTrue (allowed h starts) → Apart g h
a_or_not g h seed fits starts at_a at_b ok ok_too =
    apart_by_ends g h seed fits starts ok ok_too 100 (lit≤ tt) 2 2 (showing (On 0 0 [] ∷ At 0 [] ∷ []) (Ended 0)) (showing (At 0 [] ∷ []) (Ended 0)) at_a at_b refl refl (other_notes (showing (On 0 0 [] ∷ At 0 [] ∷ []) (Ended 0)) (showing (At 0 [] ∷ []) (Ended 0)) a_shows)

pub returns-clause-last_stop_time : goal.returns-clause-last_stop_time
returns-clause-last_stop_time c =
    apart_by_ends (due_after (2 ^ 48)) (due_after (2 ^ 48 + 1)) 42 (lit< tt) [] refl refl (2 ^ 48) (lit≤ tt) 2 2 (showing (At 0 [] ∷ On (2 ^ 48) 0 [] ∷ []) (Ended (2 ^ 48))) (showing (At 0 [] ∷ []) Stopped) refl refl refl refl (other_notes (showing (At 0 [] ∷ On (2 ^ 48) 0 [] ∷ []) (Ended (2 ^ 48))) (showing (At 0 [] ∷ []) Stopped) (λ e. cc))

pub returns-clause-first_seed : goal.returns-clause-first_seed
unfolding state_after
returns-clause-first_seed c = a_or_not (drawing (equals_x_and_y 1203932051 3113183783)) (drawing (Truth false)) 0 (lit< tt) [] refl refl refl refl

pub returns-clause-last_seed : goal.returns-clause-last_seed
unfolding state_after
returns-clause-last_seed c = a_or_not (drawing (equals_x_and_y 290611831 3872925298)) (drawing (Truth false)) (2 ^ 64 - 1) (lit< tt) [] refl refl refl refl

pub returns-clause-least_start : goal.returns-clause-least_start
returns-clause-least_start c = a_or_not (taking_x (equals_x 0)) (taking_x (Truth false)) 42 (lit< tt) (pos 0 ∷ []) refl refl refl refl

pub returns-clause-greatest_start : goal.returns-clause-greatest_start
returns-clause-greatest_start c = a_or_not (taking_x (equals_x 9)) (taking_x (Truth false)) 42 (lit< tt) (pos 9 ∷ []) refl refl refl refl
