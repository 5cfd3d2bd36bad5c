-- Stamped numbers that move at variables, once a part, as the code moves them.
use Rattle.std.specs.Prelude.{ℕ, ◌+◌, ◌-◌, ◌^◌, ◌<◌, ◌≤◌, ◌==◌, min, cond, List, [], ◌∷◌, map, replicate}
use Rattle.std.specs.List.{AllByRecursion}
use Rattle.model_core.specs.Rules.PlacedEdges.{with_place}
use Rattle.use_analysis.specs.declared.moving.Stamped.{Stamped}
use Rattle.use_analysis.specs.declared.moving.Way.{Way}
use Rattle.use_analysis.specs.declared.moving.Way.TheVariants as ways
use Rattle.use_analysis.specs.declared.moving.Part.{Part}

abbrev pub shifted : Way → ℕ → ℕ
shifted ways.Up n = min (n + 1) (2 ^ 64 - 1)
shifted ways.Down n = n - 1

-- a number after the part, where it has a variable of the part: it moves unless it has the part's stamp
abbrev pub moved_number : Part → Stamped → Stamped
moved_number part s = cond (s.stamp == part.stamp) s (record { number = shifted part.way s.number; stamp = part.stamp })

-- the numbers, moved at these variables one by one
abbrev pub moved_at : Part → List ℕ → List Stamped → List Stamped
moved_at part [] numbers = numbers
moved_at part (v ∷ vs) numbers = moved_at part vs (with_place (moved_number part) v numbers)

abbrev pub numbers_of : List Stamped → List ℕ
numbers_of numbers = map (λ (s : Stamped). s.number) numbers

-- no number has a stamp beyond this one, or none has one as great
abbrev pub StampedTo : ℕ → List Stamped → Type 0
StampedTo last numbers = AllByRecursion (λ (s : Stamped). s.stamp ≤ last) numbers

abbrev pub StampedBelow : ℕ → List Stamped → Type 0
StampedBelow next numbers = AllByRecursion (λ (s : Stamped). s.stamp < next) numbers

-- so many numbers, all 0 and with no part's stamp
abbrev pub nothing_stamped : ℕ → List Stamped
nothing_stamped count = replicate count (record { number = 0; stamp = 0 })

-- a number whose stamp is taken away
abbrev pub without_stamp : Stamped → Stamped
without_stamp s = record s { stamp = 0 }
