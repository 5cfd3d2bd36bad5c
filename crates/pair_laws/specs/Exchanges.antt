-- Edges of one event that may change places or be joined, once their conditions, delays and values are known.
use Rattle.std.specs.Prelude.{◌≡◌, Bool, true, false, not, cond, ◌&&◌, ◌||◌, ◌==◌, IsTrue, List, [], ◌∷◌, ◌++◌}
use Rattle.std.specs.List.{AllByRecursion}
use Rattle.model_core.specs.Run.Pending.{Entry}
use Rattle.pair_laws.specs.Effects.{Effect, Appends, CancelsNext, CancelsEqual, CancelsAll}

-- an edge at one moment: whether its condition is true, and what it then does
pub record EdgeEffect : Type 0 where
  pub holds : Bool
  pub effect : Effect

-- what edges do, in their order
abbrev pub effects_made : List EdgeEffect → List Effect
effects_made [] = []
effects_made (k ∷ ks) = cond k.holds (k.effect ∷ effects_made ks) (effects_made ks)

abbrev pub due_alike : Entry → Entry → Bool
due_alike a b = (a.time == b.time) && (a.priority == b.priority)

-- Two entries that aren't due alike; an entry and what cancels those of another vertex; two effects that cancel, but of one vertex
-- not one the next and the other the next with given values.
abbrev pub may_change : Effect → Effect → Bool
may_change (Appends a) (Appends b) = not (due_alike a b)
may_change (Appends a) (CancelsNext w) = not (a.vertex == w)
may_change (Appends a) (CancelsEqual w values) = not (a.vertex == w)
may_change (Appends a) (CancelsAll w) = not (a.vertex == w)
may_change (CancelsNext v) (Appends b) = not (v == b.vertex)
may_change (CancelsEqual v values) (Appends b) = not (v == b.vertex)
may_change (CancelsAll v) (Appends b) = not (v == b.vertex)
may_change (CancelsNext v) (CancelsEqual w values) = not (v == w)
may_change (CancelsEqual v values) (CancelsNext w) = not (v == w)
may_change f h = true

-- their effects may change, or not both have one
abbrev pub may_change_places : EdgeEffect → EdgeEffect → Bool
may_change_places a b = not (a.holds && b.holds) || may_change a.effect b.effect

-- neighbours that may change places did so, any number of times
pub data Exchanged : List EdgeEffect → List EdgeEffect → Type 0 where
  unchanged : (ks : List EdgeEffect) → Exchanged ks ks
  exchanged : (front : List EdgeEffect) (a b : EdgeEffect) (back : List EdgeEffect) → IsTrue (may_change_places a b) → Exchanged (front ++ a ∷ b ∷ back) (front ++ b ∷ a ∷ back)
  and_then : {ks ls ms : List EdgeEffect} → Exchanged ks ls → Exchanged ls ms → Exchanged ks ms

-- again and again the edge that comes next is one that may change places with all that are left before it
pub data Ordered : List EdgeEffect → List EdgeEffect → Type 0 where
  all_ordered : Ordered [] []
  next : (front : List EdgeEffect) (k : EdgeEffect) (back out : List EdgeEffect) → AllByRecursion (λ f. IsTrue (may_change_places f k)) front → Ordered (front ++ back) out → Ordered (front ++ k ∷ back) (k ∷ out)

-- one edge for two of which at most one has an effect
abbrev pub joined_edge : EdgeEffect → EdgeEffect → EdgeEffect
joined_edge a b = record { holds = a.holds || b.holds; effect = cond a.holds a.effect b.effect }

-- edges that were ordered and joined, any number of times; what an edge does that has no effect doesn't matter
pub data Tidied : List EdgeEffect → List EdgeEffect → Type 0 where
  by_effects : {ks ls : List EdgeEffect} → effects_made ks ≡ effects_made ls → Tidied ks ls
  by_order : {ks ls : List EdgeEffect} → Ordered ks ls → Tidied ks ls
  by_joining : (front : List EdgeEffect) (a : EdgeEffect) (between : List EdgeEffect) (b : EdgeEffect) (back : List EdgeEffect) → (a.holds && b.holds) ≡ false → AllByRecursion (λ k. IsTrue (may_change_places k b)) between → Tidied (front ++ (a ∷ between ++ b ∷ back)) (front ++ (joined_edge a b ∷ between ++ back))
  tidied_twice : {ks ls ms : List EdgeEffect} → Tidied ks ls → Tidied ls ms → Tidied ks ms
