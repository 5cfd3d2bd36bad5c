-- The words of a call, as bytes.
use Rattle.std.specs.Prelude.{ℕ, zero, suc, List, [], ◌∷◌}

-- the byte in front of the first word
unfoldable pub onto_first : ℕ → List (List ℕ) → List (List ℕ)
onto_first byte [] = (byte ∷ []) ∷ []
onto_first byte (word ∷ words) = (byte ∷ word) ∷ words

-- the words of the bytes: each is ended by a byte of 0, which the last one may lack
unfoldable pub ended_words : List ℕ → List (List ℕ)
ended_words [] = []
ended_words (zero ∷ bytes) = [] ∷ ended_words bytes
ended_words (suc n ∷ bytes) = onto_first (suc n) (ended_words bytes)
