-- Whether a place is among those of parts.
use Rattle.std.proofs.Common.{◌≡◌, ℕ, ◌==◌, ◌||◌, List, ◌++◌}
use Rattle.std.proofs.lemmas.List.Folds.{list_any-append}
use Rattle.model_core.specs.Rules.MarkedPlaces.{is_among}

pub among-append : (xs ys : List ℕ) (k : ℕ) → is_among (xs ++ ys) k ≡ (is_among xs k || is_among ys k)
among-append xs ys k = list_any-append (λ j. j == k) xs ys

pub ruleset among_parts = (among-append, list_any-append)
