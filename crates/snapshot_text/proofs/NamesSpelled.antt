-- Parts of the text of a snapshot, each read back at any place.
use Rattle.std.proofs.Common.{◌≡◌, ℕ, ◌+◌, true, List, [], ◌∷◌, ◌++◌, refl, arith}
use Rattle.std.specs.Prelude.{codes}
use Rattle.std.specs.List.{AllByRecursion, flat_map, list_all}
use Rattle.std.specs.Char.{is_ascii_alphabetic}
use Rattle.model_core.specs.declared.token.Symbol.TheVariants as symbols
use Rattle.model_core.specs.Text.Lexing.{NameOf, is_word_byte, word_among, reserved_words}
use Rattle.model_core.specs.Text.Spellable.{IsName, openings_together}
use Rattle.model_core.specs.Text.Format.{ASpelled, Many, this_name, mark, separated, ◌*>◌}
use Rattle.model_core.specs.Text.Expressions.{LanguageFormat}
use Rattle.model_core.proofs.EachOne.{every-passes}
use Rattle.round_trip.proofs.LongestTokens.{Ends, front_name}
use Rattle.round_trip.proofs.Writing.{Writes, Any, Takes, takes, writes-then, writes-made, writes-after, writes-room, writes-none, writes-more}
use Rattle.round_trip.proofs.OneToken.{writes-token, neither, bare_comma}
use Rattle.round_trip.proofs.ListText.{Pairs}

-- ---- words that are names

-- a name with this spelling
pub writes-this_name : {i : ℕ} (c : ℕ) (w : List ℕ) → is_ascii_alphabetic c ≡ true → list_all is_word_byte (c ∷ w) ≡ true → word_among reserved_words (c ∷ w) ≡ NameOf (c ∷ w) → Writes (this_name (c ∷ w)) (c ∷ w) Ends i i (λ at. Unit {0})
writes-this_name {i} c w letter all free =
    let name : IsName (c ∷ w) = record { begins = letter; all = every-passes is_word_byte (c ∷ w) all; free = free } in
    writes-token (ASpelled (c ∷ w)) (λ t. t.from) (λ at. Unit {0}) c w (NameOf (c ∷ w)) Ends (λ rest e. front_name c w rest name e) refl (neither (NameOf (c ∷ w)) i refl refl) (λ from to. tt)

-- ---- lists with commas

module _ {A X : Type 0} {p : LanguageFormat A} (text : X → List ℕ) (cost : X → ℕ) (Good : X → Type 0) (Is : X → A → Type 0) (each-writes : (x : X) → Good x → (j : ℕ) → Writes p (text x) Ends (cost x + j) j (Is x)) where
  follows-commas : (xs : List X) (rest : List ℕ) → Ends rest → Ends (flat_map (λ y. codes "," ++ text y) xs ++ rest)
  follows-commas [] rest h = h
  follows-commas (x ∷ xs) rest h = refl

  others-write : (xs : List X) → AllByRecursion Good xs → (j : ℕ) → Writes (Many (mark symbols.Comma *> p)) (flat_map (λ y. codes "," ++ text y) xs) Ends (openings_together cost xs + j) j (Pairs Is xs)
  others-write [] h j = writes-room (omega arith) (writes-none tt)
  others-write (x ∷ xs) h j =
      writes-room (omega arith) (writes-more (writes-after bare_comma (λ rest i. tt) (each-writes x h.0 (openings_together cost xs + j))) (follows-commas xs) (others-write xs h.1 j) (λ w ws i k. (i, k)))

  pub commas-write : (x : X) (xs : List X) → AllByRecursion Good (x ∷ xs) → (j : ℕ) → Writes (separated p) (text x ++ flat_map (λ y. codes "," ++ text y) xs) Ends (openings_together cost (x ∷ xs) + j) j (Pairs Is (x ∷ xs))
  commas-write x xs h j =
      writes-room (omega arith) (writes-then (writes-made (λ w ws. w ∷ ws) {J = Takes (Pairs Is xs) (Pairs Is (x ∷ xs))} (each-writes x h.0 (openings_together cost xs + j)) (λ w i. takes (λ ws k. (i, k)))) (follows-commas xs) (others-write xs h.1 j))

-- ---- one line after the other, each with its openings

module _ {A X : Type 0} {p : LanguageFormat A} (line : X → List ℕ) (cost : X → ℕ) (Good : X → Type 0) (Is : X → A → Type 0) (each-writes : (x : X) → Good x → (j : ℕ) → Writes p (line x) Any (cost x + j) j (Is x)) where
  pub rows-write : (xs : List X) → AllByRecursion Good xs → (j : ℕ) → Writes (Many p) (flat_map line xs) Any (openings_together cost xs + j) j (Pairs Is xs)
  rows-write [] h j = writes-room (omega arith) (writes-none tt)
  rows-write (x ∷ xs) h j = writes-room (omega arith) (writes-more (each-writes x h.0 (openings_together cost xs + j)) (λ rest i. tt) (rows-write xs h.1 j) (λ w ws i k. (i, k)))
