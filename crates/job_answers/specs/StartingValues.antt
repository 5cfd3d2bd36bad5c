-- Which starting values a run of a model takes, and the line that says why others are refused.
use Rattle.std.specs.Prelude.{ℕ, suc, ◌==◌, ℤ, if◌then◌else◌, List, [], ◌∷◌, ◌++◌, codes, decimal, length, Option, Some, None}
use Rattle.std.specs.Fmt.{signed_decimal}
use Rattle.model_core.specs.EventGraph.{EventGraph, Variable}
use Rattle.model_core.specs.Run.State.{within}
use Rattle.model_core.specs.Run.History.{start_parameters}

-- the line for another number of starting values than the first vertex has parameters
abbrev pub count_line : ℕ → ℕ → List ℕ
count_line needed given = codes "sigma: starting values needed " ++ decimal needed ++ codes " given " ++ decimal given ++ codes "\n"

-- the line for a starting value outside its parameter's range
abbrev pub outside_line : ℕ → ℤ → List ℕ
outside_line place value = codes "sigma: starting value " ++ decimal place ++ codes " outside: " ++ signed_decimal value ++ codes "\n"

-- the line for the first value outside its parameter's range, where these are the values from a place on
abbrev pub first_outside : ℕ → List Variable → List ℤ → Option (List ℕ)
first_outside place [] values = None
first_outside place (v ∷ vs) [] = None
first_outside place (v ∷ vs) (x ∷ values) = if within v.lo v.hi x then first_outside (suc place) vs values else Some (outside_line place x)

-- why the starting values of a model aren't taken: the first vertex has another number of parameters, or one value lies
-- outside its parameter's range. Places count from 1
abbrev pub start_refusal : EventGraph → List ℤ → Option (List ℕ)
start_refusal g starts =
    if length (start_parameters g) == length starts then first_outside 1 (start_parameters g) starts
    else Some (count_line (length (start_parameters g)) (length starts))
