-- What holds of each element of a list: two facts as one.
use Rattle.std.proofs.Common.{List, [], ◌∷◌}
use Rattle.std.specs.List.{AllByRecursion}

pub held-both : {A : Type 0} (P Q : A → Type 0) (xs : List A) → AllByRecursion P xs → AllByRecursion Q xs → AllByRecursion (λ (a : A). P a × Q a) xs
held-both P Q [] all others = tt
held-both P Q (x ∷ xs) all others = ((all.0, others.0), held-both P Q xs all.1 others.1)
