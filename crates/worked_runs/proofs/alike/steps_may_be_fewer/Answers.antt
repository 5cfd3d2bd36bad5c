-- Two moves of the one machine are answered by one move of the other. The other way round, the looks come too late.
use Rattle.std.proofs.Common.{◌≡◌, ℕ, zero, suc, ◌≤◌, ℤ, None, IsTrue, List, [], ◌∷◌, replicate, refl, ◌∙◌, ap, lit<, lit≤, arith}
use Rattle.sig_base.proofs.Tests.{nat_lt-zero}
use Rattle.model_core.specs.Run.Pending.{Entry}
use Rattle.model_core.specs.Run.Machine.{At, On, Ended, Going, Look, Goes}
use Rattle.model_core.specs.Run.History.{Moment, next_move, allowed, look}
use Rattle.model_core.specs.Run.Same.{SameLooks}
use Rattle.run_laws.proofs.Simulation.{rests, goes, Joined, one, two_go, two_for_one}
use Rattle.worked_runs.specs.Pairs.{ends, comes_twice, two_events, one_event, a_first, a_second}
use Rattle.worked_runs.proofs.Looks.{joined_by, nothing_begins}
use Rattle.worked_runs.proofs.alike.steps_may_be_fewer.Goals as goal

-- at clock 0, before any note
abbrev at_0 : List Entry → Moment
at_0 pending = record { now = record { clock = 0; state = []; taken = replicate 64 0; pending = pending }; noted = None }

abbrev first : Moment
first = at_0 (record { time = 0; priority = 5; vertex = 0; values = [] } ∷ [])

-- the vertex comes at once
abbrev next : ℕ → Moment
next vertex = at_0 (record { time = 0; priority = 0; vertex = vertex; values = [] } ∷ [])

-- ---- runs that end

-- the moments of the two models: as they begin, and where nothing is pending
data UpToTheEnd : Moment → Moment → Type 0 where
  begun : {s t : Moment} → s ≡ first → t ≡ first → UpToTheEnd s t
  over : {s t : Moment} → s ≡ at_0 [] → t ≡ at_0 [] → UpToTheEnd s t

two_begin : (seed until : ℕ) → next_move two_events seed until first ≡ Goes [] (next 1)
two_begin seed until = rw (nat_lt-zero until) refl

two_go_on : (seed until : ℕ) → next_move two_events seed until (next 1) ≡ Goes [] (at_0 [])
two_go_on seed until = rw (nat_lt-zero until) refl

one_begins : (seed until : ℕ) → next_move one_event seed until first ≡ Goes [] (at_0 [])
one_begins seed until = rw (nat_lt-zero until) refl

joined_to_the_end : (seed until : ℕ) (s t : Moment) → UpToTheEnd s t → Joined (next_move two_events seed until) UpToTheEnd (next_move two_events seed until s) (next_move one_event seed until t)
joined_to_the_end seed until s t (begun a b) =
    let f = next_move two_events seed until in
    let g = next_move one_event seed until in
    joined_by f g UpToTheEnd s t (ap f a ∙ two_begin seed until) (ap g b ∙ one_begins seed until) (two_go [] [] (next 1) (at_0 []) (at_0 []) (two_go_on seed until) (over refl refl))
joined_to_the_end seed until s t (over a b) =
    let f = next_move two_events seed until in
    let g = next_move one_event seed until in
    joined_by f g UpToTheEnd s t (ap f a) (ap g b) (one (rests (At 0 [] ∷ []) (Ended 0)))

ending_runs : (seed until : ℕ) (starts : List ℤ) → IsTrue (allowed two_events starts) → SameLooks (λ n. look two_events seed starts until n) (λ n. look one_event seed starts until n)
ending_runs seed until [] ok = two_for_one (next_move two_events seed until) (next_move one_event seed until) UpToTheEnd (joined_to_the_end seed until) first first (begun refl refl)
ending_runs seed until (x ∷ xs) ok = absurd cc

pub returns-clause-fewer : goal.returns-clause-fewer
returns-clause-fewer c = record { watched = refl; started = refl; runs = λ seed fits starts ok until early. ending_runs seed until starts ok }

-- one step isn't enough
two_take_longer : (m : ℕ) → m ≤ 1 → (look two_events 42 [] 100 m).standing ≡ Going
two_take_longer zero le = refl
two_take_longer (suc zero) le = refl
two_take_longer (suc (suc m)) le = absurd (omega arith)

going_or_ended : (t : ℕ) (a b : Look) → a ≡ b → a.standing ≡ Going → b.standing ≡ Ended t → ⊥
going_or_ended t a b e going ended = cc (ap (λ (l : Look). l.standing) e)

pub returns-clause-not_more : goal.returns-clause-not_more
returns-clause-not_more c = λ same.
    let (m, le, e) = (same.runs 42 (lit< tt) [] refl 100 (lit≤ tt)).finishes 1 refl in
    going_or_ended 0 (look two_events 42 [] 100 m) (look one_event 42 [] 100 1) e (two_take_longer m le) refl

twice_takes_longer : (m : ℕ) → m ≤ 2 → (look comes_twice 42 [] 100 m).standing ≡ Going
twice_takes_longer zero le = refl
twice_takes_longer (suc zero) le = refl
twice_takes_longer (suc (suc zero)) le = refl
twice_takes_longer (suc (suc (suc m))) le = absurd (omega arith)

pub returns-clause-no_more_after_the_last_note : goal.returns-clause-no_more_after_the_last_note
returns-clause-no_more_after_the_last_note c = λ same.
    let (m, le, e) = (same.runs 42 (lit< tt) [] refl 100 (lit≤ tt)).finishes 2 refl in
    going_or_ended 5 (look comes_twice 42 [] 100 m) (look ends 42 [] 100 2) e (twice_takes_longer m le) refl

-- ---- runs that go on for ever

-- the moments of the two models: as they begin, and as A or B comes
data Turning : Moment → Moment → Type 0 where
  begun_to_turn : {s t : Moment} → s ≡ first → t ≡ first → Turning s t
  a_comes : {s t : Moment} → s ≡ next 1 → t ≡ next 1 → Turning s t
  b_comes : {s t : Moment} → s ≡ next 2 → t ≡ next 2 → Turning s t

c_follows : (seed until : ℕ) → next_move a_second seed until first ≡ Goes [] (next 3)
c_follows seed until = rw (nat_lt-zero until) refl

a_follows_c : (seed until : ℕ) → next_move a_second seed until (next 3) ≡ Goes [] (next 1)
a_follows_c seed until = rw (nat_lt-zero until) refl

a_follows : (seed until : ℕ) → next_move a_first seed until first ≡ Goes [] (next 1)
a_follows seed until = rw (nat_lt-zero until) refl

-- from A on, the models make the same moves
a_turns : (seed until : ℕ) → next_move a_first seed until (next 1) ≡ Goes (On 0 0 [] ∷ []) (next 2)
a_turns seed until = rw (nat_lt-zero until) refl

b_turns : (seed until : ℕ) → next_move a_first seed until (next 2) ≡ Goes (On 0 1 [] ∷ []) (next 1)
b_turns seed until = rw (nat_lt-zero until) refl

a_turns_too : (seed until : ℕ) → next_move a_second seed until (next 1) ≡ Goes (On 0 0 [] ∷ []) (next 2)
a_turns_too seed until = rw (nat_lt-zero until) refl

b_turns_too : (seed until : ℕ) → next_move a_second seed until (next 2) ≡ Goes (On 0 1 [] ∷ []) (next 1)
b_turns_too seed until = rw (nat_lt-zero until) refl

joined_for_ever : (seed until : ℕ) (s t : Moment) → Turning s t → Joined (next_move a_second seed until) Turning (next_move a_second seed until s) (next_move a_first seed until t)
joined_for_ever seed until s t (begun_to_turn a b) =
    let f = next_move a_second seed until in
    let g = next_move a_first seed until in
    joined_by f g Turning s t (ap f a ∙ c_follows seed until) (ap g b ∙ a_follows seed until) (two_go [] [] (next 3) (next 1) (next 1) (a_follows_c seed until) (a_comes refl refl))
joined_for_ever seed until s t (a_comes a b) =
    let f = next_move a_second seed until in
    let g = next_move a_first seed until in
    joined_by f g Turning s t (ap f a ∙ a_turns_too seed until) (ap g b ∙ a_turns seed until) (one (goes (On 0 0 [] ∷ []) (b_comes refl refl)))
joined_for_ever seed until s t (b_comes a b) =
    let f = next_move a_second seed until in
    let g = next_move a_first seed until in
    joined_by f g Turning s t (ap f a ∙ b_turns_too seed until) (ap g b ∙ b_turns seed until) (one (goes (On 0 1 [] ∷ []) (a_comes refl refl)))

turning_runs : (seed until : ℕ) (starts : List ℤ) → IsTrue (allowed a_second starts) → SameLooks (λ n. look a_second seed starts until n) (λ n. look a_first seed starts until n)
turning_runs seed until [] ok = two_for_one (next_move a_second seed until) (next_move a_first seed until) Turning (joined_for_ever seed until) first first (begun_to_turn refl refl)
turning_runs seed until (x ∷ xs) ok = absurd cc

pub returns-clause-fewer_for_ever : goal.returns-clause-fewer_for_ever
returns-clause-fewer_for_ever c = record { watched = refl; started = refl; runs = λ seed fits starts ok until early. turning_runs seed until starts ok }

-- two steps don't show A
a_comes_later : (m : ℕ) → m ≤ 2 → (look a_second 42 [] 100 m).history ≡ []
a_comes_later zero le = refl
a_comes_later (suc zero) le = refl
a_comes_later (suc (suc zero)) le = refl
a_comes_later (suc (suc (suc m))) le = absurd (omega arith)

pub returns-clause-not_more_for_ever : goal.returns-clause-not_more_for_ever
returns-clause-not_more_for_ever c = λ same.
    let (m, le, begins) = (same.runs 42 (lit< tt) [] refl 100 (lit≤ tt)).shows 2 in
    nothing_begins (look a_second 42 [] 100 m).history (a_comes_later m le) begins
