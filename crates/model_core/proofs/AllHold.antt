-- Where no condition of a list fails, each of them holds.
use Rattle.std.proofs.Common.{◌≡◌, ℕ, suc, Bool, true, false, List, [], ◌∷◌, Option, None, Some, refl}
use Rattle.std.specs.List.{AllByRecursion}
use Rattle.std.specs.Option.{option_map}
use Rattle.model_core.specs.Rules.Conditions.{first_failed}

pub none_before : (o : Option ℕ) → option_map (λ n. suc n) o ≡ None → o ≡ None
none_before None e = refl
none_before (Some n) e = cc

pub every-holds : (bs : List Bool) → first_failed bs ≡ None → AllByRecursion (λ b. b ≡ true) bs
every-holds [] e = tt
every-holds (true ∷ bs) e = (refl, every-holds bs (none_before (first_failed bs) e))
every-holds (false ∷ bs) e = cc
