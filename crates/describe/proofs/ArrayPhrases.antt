-- An array and a scalar have different phrases, and the code picks one by the size.
use Rattle.std.proofs.Common.{◌≡◌, ◌≢◌, ℕ, zero, suc, List, ◌++◌, refl}
use Rattle.std.specs.Prelude.{codes, decimal}
use Rattle.describe.specs.Description.{variable_phrase}

-- the name of what isn't a scalar
pub array_phrase : (name : List ℕ) (n : ℕ) → n ≢ 0 → variable_phrase name n ≡ codes "The array " ++ name ++ codes " of " ++ decimal n ++ codes " cells"
array_phrase name zero some = absurd (some refl)
array_phrase name (suc n) some = refl
