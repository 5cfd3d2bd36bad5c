-- The values of each variable, as consecutive pieces of one list.
use Rattle.std.specs.Prelude.{◌≡◌, ℕ, ◌+◌, List, [], ◌∷◌, take, drop, map}
use Rattle.sig_expr.specs.declared.state.Span.{Span}

abbrev pub piece : {A : Type 0} → List A → Span → List A
piece xs p = take p.size (drop p.from xs)

abbrev pub pieces : {A : Type 0} → List A → List Span → List (List A)
pieces xs spans = map (piece xs) spans

-- the spans follow one another between two places
abbrev pub Laid : ℕ → List Span → ℕ → Type 0
Laid from [] end = from ≡ end
Laid from (p ∷ ps) end = (p.from ≡ from) × Laid (from + p.size) ps end
