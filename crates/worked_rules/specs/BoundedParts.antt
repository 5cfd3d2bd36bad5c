-- Expressions of the bounded model with ends of each sign, and ones that may fault.
use Rattle.std.specs.Prelude.{Bool, true, false, List, [], ◌∷◌, map}
use Rattle.model_core.specs.declared.bounds.Bounds.{Bounds}
use Rattle.model_core.specs.EventGraph.{Expression, Truth, Negative, Binary, Add, Subtract, Multiply, Divide, Remainder, Least, Greatest, Equal, NotEqual, Below, AtMost, Above, AtLeast, Operator}
use Rattle.worked_runs.specs.Building.{whole, minus}
use Rattle.worked_runs.specs.BoundedModel.{x, b, seen_bounds}

-- in 2..3, in -3..-2, in 20..30 and in -30..-20
abbrev pub two_or_three : Expression
two_or_three = Binary Greatest x (whole 2)

abbrev pub below_minus_one : Expression
below_minus_one = Negative two_or_three

abbrev pub twenties : Expression
twenties = Binary Multiply two_or_three (whole 10)

abbrev pub minus_twenties : Expression
minus_twenties = Negative twenties

-- the four pairs of signs
abbrev pub by_signs : Operator → List Bounds
by_signs op =
    map seen_bounds (Binary op twenties two_or_three ∷ Binary op minus_twenties two_or_three ∷ Binary op twenties below_minus_one ∷ Binary op minus_twenties below_minus_one ∷ [])

-- in -5..5, or a fault
abbrev pub five_over_x : Expression
five_over_x = Binary Divide (whole 5) x

-- the operators on numbers, and whether they are quiet between these
abbrev pub on_numbers : List Operator
on_numbers = Add ∷ Subtract ∷ Multiply ∷ Divide ∷ Remainder ∷ Least ∷ Greatest ∷ Equal ∷ NotEqual ∷ Below ∷ AtMost ∷ Above ∷ AtLeast ∷ []

abbrev pub are_quiet : Expression → Expression → List Bool
are_quiet left right = map (λ op. (seen_bounds (Binary op left right)).quiet) on_numbers

-- true, false, and either
abbrev pub three_truths : List Expression
three_truths = Truth true ∷ Truth false ∷ b ∷ []

-- an operator between each two of these
abbrev pub between_truths : Operator → List (List Bounds)
between_truths op = map (λ left. map (λ right. seen_bounds (Binary op left right)) three_truths) three_truths

-- X compared with each of these, where it is 0 to 3
abbrev pub x_and : Operator → List Bounds
x_and op = map (λ right. seen_bounds (Binary op x right)) (minus 1 ∷ whole 0 ∷ whole 1 ∷ whole 2 ∷ whole 3 ∷ whole 4 ∷ [])
