-- What is watched once stays watched once where vertices take new places, if those that are watched keep apart from all others.
use Rattle.std.proofs.Common.{◌≡◌, ℕ, ◌+◌, ◌<◌, ◌==◌, nat_eq, false, List, [], ◌∷◌, map, arith}
use Rattle.std.specs.List.{AllByRecursion, IsDistinct}
use Rattle.std.proofs.lemmas.Bool.Decides.{nat_tests}
use Rattle.model_core.specs.EventGraph.{Watched, WatchedVariable, WatchedVertex}
use Rattle.model_core.specs.Static.OwnRules.{watch_number}
use Rattle.model_core.specs.Rules.Drop.{watched_renumbered}

vertex_apart : (n a b i j : ℕ) → nat_eq (n + a) (n + b) ≡ false → (i == j) ≡ (a == b) → nat_eq (n + i) (n + j) ≡ false
vertex_apart n a b i j e same = grind (arith, nat_tests)

pub variable_apart : (n v i : ℕ) → v < n → nat_eq v (n + i) ≡ false
variable_apart n v i below = grind (arith, nat_tests)

pub vertex_from_variable : (n v i : ℕ) → v < n → nat_eq (n + i) v ≡ false
vertex_from_variable n v i below = grind (arith, nat_tests)

-- one of n variables, or a vertex of this kind
abbrev pub WatchedItem : ℕ → (ℕ → Type 0) → Watched → Type 0
WatchedItem n Told (WatchedVariable v) = v < n
WatchedItem n Told (WatchedVertex v) = Told v

module _ (n : ℕ) (f : ℕ → ℕ) (Told : ℕ → Type 0) (apart : (v w : ℕ) → Told v → Told w → (f v == f w) ≡ (v == w)) where
  item_apart : (a b : Watched) → WatchedItem n Told a → WatchedItem n Told b → nat_eq (watch_number n a) (watch_number n b) ≡ false → nat_eq (watch_number n (watched_renumbered f a)) (watch_number n (watched_renumbered f b)) ≡ false
  item_apart (WatchedVariable v) (WatchedVariable w) here there e = e
  item_apart (WatchedVariable v) (WatchedVertex w) here there e = variable_apart n v (f w) here
  item_apart (WatchedVertex v) (WatchedVariable w) here there e = vertex_from_variable n w (f v) there
  item_apart (WatchedVertex v) (WatchedVertex w) here there e = vertex_apart n v w (f v) (f w) e (apart v w here there)

  items_apart : (a : Watched) (watch : List Watched) → WatchedItem n Told a → AllByRecursion (WatchedItem n Told) watch → AllByRecursion (λ y. nat_eq (watch_number n a) y ≡ false) (map (watch_number n) watch) → AllByRecursion (λ y. nat_eq (watch_number n (watched_renumbered f a)) y ≡ false) (map (watch_number n) (map (watched_renumbered f) watch))
  items_apart a [] here all e = tt
  items_apart a (b ∷ watch) here all e = (item_apart a b here all.0 e.0, items_apart a watch here all.1 e.1)

  pub watch_apart : (watch : List Watched) → AllByRecursion (WatchedItem n Told) watch → IsDistinct nat_eq (map (watch_number n) watch) → IsDistinct nat_eq (map (watch_number n) (map (watched_renumbered f) watch))
  unfolding IsDistinct
  watch_apart [] all distinct = tt
  watch_apart (a ∷ watch) all distinct = (items_apart a watch all.0 all.1 distinct.0, watch_apart watch all.1 distinct.1)
