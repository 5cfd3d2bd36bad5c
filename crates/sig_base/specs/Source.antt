-- What contracts see of a source, and what reads do to the bytes that it has left. `None` is a source that doesn't show them.
use Rattle.std.specs.Prelude.{◌≡◌, ◌≤◌, ℕ, List, [], take, drop, length, Option, Some, IfSome}

-- what contracts see of a source: the bytes that it has left, if it shows them, and the count of its failed calls
pub record Inlet : Type 0 where
  pub left : Option (List ℕ)
  pub faults : ℕ

-- bytes that are shown stay as they were
abbrev pub Stays : Option (List ℕ) → Option (List ℕ) → Type 0
Stays old new = IfSome old (λ bytes. new ≡ Some bytes)

-- n bytes were taken from the front of the bytes left, and the rest is left
abbrev pub Takes : Option (List ℕ) → Option (List ℕ) → ℕ → Type 0
Takes old new n = IfSome old (λ bytes. (n ≤ length bytes) × (new ≡ Some (drop n bytes)))

-- the buffer's first n bytes are the first n of the bytes left
abbrev pub Shows : Option (List ℕ) → ℕ → List ℕ → Type 0
Shows old n buffer = IfSome old (λ bytes. take n buffer ≡ take n bytes)

-- no byte is left
abbrev pub IsAtEnd : Option (List ℕ) → Type 0
IsAtEnd left = IfSome left (λ bytes. bytes ≡ [])
