-- The symbols of two bytes are looked for first, and then those of one.
use Rattle.std.proofs.Common.{◌≡◌, ℕ, ◌<◌, Bool, true, false, cond, List, [], ◌∷◌, ◌++◌, length, slice_index, refl, ap, ◌∙◌, arith}
use Rattle.std.specs.Prelude.{nat_eq, Option, Some, None}
use Rattle.std.specs.List.{starts_with}
use Rattle.model_core.specs.declared.token.Symbol.{Symbol}
use Rattle.model_core.specs.Text.Lexing.{LexemeKind, Mark, Front, Longest, Neither, all_symbols, symbol_among}
use Rattle.model_lex.specs.Inner.Fronts.{symbol_front, symbols_of_length}

step : (b : Bool) (n m : ℕ) (k : LexemeKind) (o : Option Symbol) (rest rest' later : Front) → (symbol_front n o Neither ≡ rest → symbol_front n o later ≡ rest') → symbol_front n o Neither ≡ cond b (Longest m k) rest → symbol_front n o later ≡ cond b (Longest m k) rest'
step true n m k None rest rest' later more e = absurd cc
step true n m k (Some s) rest rest' later more e = e
step false n m k o rest rest' later more e = more e

-- the symbol among the first ones, or else what there is among the others
symbol_among-append : (ss ts : List (List ℕ × Symbol)) (bytes : List ℕ) (n : ℕ) (o : Option Symbol) → symbol_front n o Neither ≡ symbol_among ss bytes → symbol_front n o (symbol_among ts bytes) ≡ symbol_among (ss ++ ts) bytes
symbol_among-append [] ts bytes n None e = refl
symbol_among-append [] ts bytes n (Some s) e = absurd cc
symbol_among-append (x ∷ ss) ts bytes n o e =
    step (starts_with nat_eq bytes x.0) n (length x.0) (Mark x.1) o (symbol_among ss bytes) (symbol_among (ss ++ ts) bytes) (symbol_among ts bytes) (symbol_among-append ss ts bytes n o) e

two_bytes : (bytes : List ℕ) → 0 < length bytes → symbol_among (symbols_of_length 2) (slice_index bytes 0 ∷ slice_index bytes 1 ∷ []) ≡ symbol_among (symbols_of_length 2) bytes
two_bytes [] some = absurd (omega arith)
two_bytes (c ∷ []) some = refl
two_bytes (c ∷ d ∷ s) some = refl

one_byte : (bytes : List ℕ) → 0 < length bytes → symbol_among (symbols_of_length 1) (slice_index bytes 0 ∷ []) ≡ symbol_among (symbols_of_length 1) bytes
one_byte [] some = absurd (omega arith)
one_byte (c ∷ s) some = refl

-- a symbol of two bytes, or else of one
pub by_length : (bytes : List ℕ) (second : ℕ) (two : Option Symbol) → 0 < length bytes → second ≡ slice_index bytes 1 → symbol_front 2 two Neither ≡ symbol_among (symbols_of_length 2) (slice_index bytes 0 ∷ second ∷ [])
    → symbol_front 2 two (symbol_among (symbols_of_length 1) (slice_index bytes 0 ∷ [])) ≡ symbol_among all_symbols bytes
by_length bytes second two some is e =
    ap (symbol_front 2 two) (one_byte bytes some)
    ∙ symbol_among-append (symbols_of_length 2) (symbols_of_length 1) bytes 2 two
    (e ∙ ap (λ d. symbol_among (symbols_of_length 2) (slice_index bytes 0 ∷ d ∷ [])) is ∙ two_bytes bytes some)
