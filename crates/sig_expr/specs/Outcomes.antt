-- Results with another value.
use Rattle.std.specs.Prelude.{Result, Ok, Err}

-- the image of the value, where there is one
abbrev pub map_ok : {A B E : Type 0} → (A → B) → Result A E → Result B E
map_ok f (Ok a) = Ok (f a)
map_ok f (Err e) = Err e

-- this in place of the value, where there is one
abbrev pub with_ok : {A B E : Type 0} → B → Result A E → Result B E
with_ok b (Ok a) = Ok b
with_ok b (Err e) = Err e
