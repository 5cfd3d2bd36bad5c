-- What contracts see of a sink, and what writes do to the bytes that it has taken. `None` is a sink that doesn't show them.
use Rattle.std.specs.Prelude.{◌≡◌, ◌++◌, ℕ, Bool, List, Option, Some, IfSome}

-- what contracts see of a sink: the bytes that it has taken, if it shows them, the count of its failed calls, and whether all
-- that was written is finished
pub record Outlet : Type 0 where
  pub written : Option (List ℕ)
  pub faults : ℕ
  pub settled : Bool

-- the bytes taken grew by these
abbrev pub GrowsBy : Option (List ℕ) → Option (List ℕ) → List ℕ → Type 0
GrowsBy old new piece = IfSome old (λ bytes. new ≡ Some (bytes ++ piece))
