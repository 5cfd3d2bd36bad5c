-- Lists that have an element.
use Rattle.std.proofs.Common.{◌<◌, List, [], ◌∷◌, length, map, arith}
use Rattle.model_core.specs.Text.Spellable.{IsNonEmpty}

pub has_one-length : {A : Type 0} (xs : List A) → IsNonEmpty xs → 0 < length xs
has_one-length [] one = absurd one
has_one-length (x ∷ xs) one = omega arith

pub has_one-map : {A B : Type 0} (f : A → B) (xs : List A) → IsNonEmpty xs → IsNonEmpty (map f xs)
has_one-map f [] one = absurd one
has_one-map f (x ∷ xs) one = tt
