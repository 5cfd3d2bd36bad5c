-- Numbers that two lists have in common.
use Rattle.std.proofs.Common.{◌≡◌, ℕ, ◌==◌, true, false, List}
use Rattle.std.proofs.lemmas.Bool.Decides.{same_from_decides}
use Rattle.model_core.specs.Rules.MarkedPlaces.{is_among}
use Rattle.model_core.specs.Conflicts.Conflict.{in_common}
use Rattle.model_core.proofs.EachOne.{every-fails}
use Rattle.model_core.proofs.Among.{Among, any-among, among-any, of-among}
use Rattle.mark_laws.proofs.EntailedMarks.{among-place, place-among}

-- of two lists with none in common, each number of the one isn't any of the other
pub none-shared : (xs ys : List ℕ) → in_common xs ys ≡ false → (x y : ℕ) → Among x xs → Among y ys → (y == x) ≡ false
none-shared xs ys none x y in_xs in_ys =
    of-among (λ (j : ℕ). (j == x) ≡ false) ys y (every-fails (λ j. j == x) ys (of-among (λ (k : ℕ). is_among ys k ≡ false) xs x (every-fails (is_among ys) xs none) in_xs)) in_ys

pub shared : (xs ys : List ℕ) (k : ℕ) → Among k xs → Among k ys → in_common xs ys ≡ true
shared xs ys k in_xs in_ys = among-any (is_among ys) xs k in_xs (place-among ys k in_ys)

-- it is the same, whichever list is first
shared-turned : (xs ys : List ℕ) → in_common xs ys ≡ true → in_common ys xs ≡ true
shared-turned xs ys some = let (k, in_xs, found) = any-among (is_among ys) xs some in shared ys xs k (among-place ys k found) in_xs

pub in_common-turned : (xs ys : List ℕ) → in_common xs ys ≡ in_common ys xs
in_common-turned xs ys = same_from_decides (in_common xs ys) (in_common ys xs) (shared-turned xs ys, shared-turned ys xs) (λ some. some, λ some. some)
