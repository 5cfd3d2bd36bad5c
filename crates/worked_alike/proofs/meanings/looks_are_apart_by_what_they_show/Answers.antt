use Rattle.std.proofs.Common.{◌≡◌, List, [], ◌∷◌, ◌++◌, refl}
use Rattle.model_core.specs.Run.Machine.{Look, Note, At, On, Going}
use Rattle.model_core.specs.Run.History.{look}
use Rattle.alike_laws.specs.LooksApart.{LooksApart, OtherEnds, FirstOver, SecondOver, OtherNotes}
use Rattle.worked_runs.specs.Pairs.{ends}
use Rattle.worked_alike.proofs.meanings.looks_are_apart_by_what_they_show.Goals as goal

other_head : (xs ys rest : List Note) → (On 0 1 [] ∷ xs) ++ rest ≡ At 0 [] ∷ ys → ⊥
other_head xs ys rest e = cc

pub returns-clause-first_over : goal.returns-clause-first_over
returns-clause-first_over c = FirstOver refl refl (λ (rest, e). other_head [] [] rest e)

pub returns-clause-second_over : goal.returns-clause-second_over
returns-clause-second_over c = SecondOver refl refl (λ (rest, e). other_head [] [] rest e)

-- a look that goes on and has shown nothing is apart from no look
shows_nothing : (a b : Look) → a.history ≡ [] → a.standing ≡ Going → LooksApart a b → ⊥
shows_nothing a b none going (OtherEnds fin fin_too differ) = cc
shows_nothing a b none going (FirstOver fin going_too missing) = cc
shows_nothing a b none going (SecondOver going_too fin missing) = missing (rw none (b.history, refl))
shows_nothing a b none going (OtherNotes going_one going_too missing missing_too) = missing (rw none (b.history, refl))

pub returns-clause-less : goal.returns-clause-less
returns-clause-less c = shows_nothing (look ends 42 [] 5 0) (look ends 42 [] 5 3) refl refl
