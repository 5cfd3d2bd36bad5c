-- The first line of a text, and the first lines of two texts that differ.
use Rattle.std.proofs.Common.{◌≡◌, ◌==◌, ◌<◌, ℕ, zero, suc, true, cond, List, [], ◌∷◌, length, take, drop, get_or, refl, sym, ap, ◌∙◌, arith}
use Rattle.std.proofs.lemmas.Bool.{eq-eqb, ne_eqb}
use Rattle.std.proofs.lemmas.Bool.Decides.{nat_tests}
use Rattle.std.specs.Prelude.{None}
use Rattle.model_pairs.specs.LinesOfTexts.{before_lines, lines_of, first_lines_apart}

-- no line feed stands before this place
abbrev pub NoneBefore : List ℕ → ℕ → Type 0
NoneBefore text i = (k : ℕ) → k < i → get_or text k 0 ≡ 10 → ⊥

-- the first line ends with the first line feed
pub first_line : (i : ℕ) (text : List ℕ) → i < length text → get_or text i 0 ≡ 10 → NoneBefore text i → lines_of text ≡ take (suc i) text ∷ lines_of (drop (suc i) text)
first_line i [] below is none = absurd (omega arith)
first_line zero (byte ∷ bytes) below is none = ap (λ b. cond b ((byte ∷ []) ∷ lines_of bytes) (before_lines byte (lines_of bytes))) (eq-eqb byte 10 is)
first_line (suc i) (byte ∷ bytes) below is none =
    ap (λ b. cond b ((byte ∷ []) ∷ lines_of bytes) (before_lines byte (lines_of bytes))) (ne_eqb byte 10 (none 0 (omega arith)))
    ∙ ap (before_lines byte) (first_line i bytes (omega arith) is (λ k less. none (suc k) (omega arith)))

-- a text without a line feed is one line
pub only_line : (text : List ℕ) → 0 < length text → NoneBefore text (length text) → lines_of text ≡ text ∷ []
only_line [] some none = absurd (omega arith)
only_line (byte ∷ []) some none = ap (λ b. cond b ((byte ∷ []) ∷ []) (before_lines byte [])) (ne_eqb byte 10 (none 0 (omega arith)))
only_line (byte ∷ next ∷ bytes) some none =
    ap (λ b. cond b ((byte ∷ []) ∷ lines_of (next ∷ bytes)) (before_lines byte (lines_of (next ∷ bytes)))) (ne_eqb byte 10 (none 0 (omega arith)))
    ∙ ap (before_lines byte) (only_line (next ∷ bytes) (omega arith) (λ k less. none (suc k) (omega arith)))

pub nothing_after : (text : List ℕ) → drop (length text) text ≡ []
nothing_after [] = refl
nothing_after (byte ∷ bytes) = nothing_after bytes

-- ---- where one text has come to its end, no lines are apart

none_second : (place : ℕ) (lines : List (List ℕ)) → first_lines_apart place lines [] ≡ None
none_second place [] = refl
none_second place (line ∷ lines) = refl

pub over_first : (place : ℕ) (xs ys : List ℕ) → (length xs == 0) ≡ true → None ≡ first_lines_apart place (lines_of xs) (lines_of ys)
over_first place [] ys e = refl
over_first place (x ∷ xs) ys e = absurd (let wrong : length (x ∷ xs) ≡ 0 = grind (arith, nat_tests, e) in omega (arith, wrong))

pub over_second : (place : ℕ) (xs ys : List ℕ) → (length ys == 0) ≡ true → None ≡ first_lines_apart place (lines_of xs) (lines_of ys)
over_second place xs [] e = sym (none_second place (lines_of xs))
over_second place xs (y ∷ ys) e = absurd (let wrong : length (y ∷ ys) ≡ 0 = grind (arith, nat_tests, e) in omega (arith, wrong))
