-- The laws of model texts: what is read is spelled, what is spelled is read, and where the reader is stuck no text goes on.
use Rattle.std.proofs.Common.{◌≡◌, ℕ, List, [], ◌∷◌, ◌++◌, true, false, ◌⊎◌, inl, inr, refl, sym, ap, ◌∙◌, subst, append_assoc}
use Rattle.std.specs.Prelude.{Result, Ok, Err}
use Rattle.model_core.specs.Text.Lexing.{Lexeme}
use Rattle.model_core.specs.Text.Written.{WrittenModel}
use Rattle.model_core.specs.Text.Format.{Spells, by_rule}
use Rattle.model_core.specs.Text.Expressions.{LanguageFormat, level_format}
use Rattle.model_core.specs.Text.Language.{text_format, BeginsWithText, IsText}
use Rattle.model_core.specs.Text.FirstWrong.{CanBegin, CantGoOn, FirstWrong, wrong_place, IsWrongAt, IsUnexpectedAt}
use Rattle.model_core.specs.Text.ModelText.{SpellsText}
use Rattle.text_laws.specs.FirstTokens.{begins_among, fine, stop_sorts}
use Rattle.text_laws.specs.FormatReader.{Parse, took, stuck, and_next, whole_read}
use Rattle.text_laws.specs.LanguageReader.{level_lookahead, language_reader, text_and_rest, text_read}
use Rattle.text_laws.proofs.Formats.TokenSorts.{same_reading, begins-none}
use Rattle.text_laws.proofs.Formats.RuleLaws.{sound, complete}
use Rattle.text_laws.proofs.Formats.Stopping.{rests, stuck-there, left-there, derives-framed, rule-framed}
use Rattle.text_laws.proofs.Formats.OneTokenDecides.{levels-fine, text-fine, text-ends}
use Rattle.text_laws.proofs.Formats.Samples.{language-viable}

-- ---- what is spelled

pub read-is_spelled : (tokens : List Lexeme) (m : WrittenModel) (left : List Lexeme) → text_and_rest tokens ≡ took m left → BeginsWithText tokens m left
read-is_spelled tokens m left e = sound level_lookahead level_format text_format tokens m left e

text-open : (left : List Lexeme) → begins_among (stop_sorts level_lookahead text_format) left ≡ false
text-open left = subst (λ s. begins_among s left ≡ false) (sym text-ends) refl

pub spelled-is_read : (tokens : List Lexeme) (m : WrittenModel) (left : List Lexeme) → BeginsWithText tokens m left → text_and_rest tokens ≡ took m left
spelled-is_read tokens m left d = complete level_lookahead level_format levels-fine text_format text-fine tokens m left (text-open left) d

pub one_reading : (tokens : List Lexeme) (m n : WrittenModel) (left rest : List Lexeme) → BeginsWithText tokens m left → BeginsWithText tokens n rest → (m ≡ n) × (left ≡ rest)
one_reading tokens m n left rest d e = same_reading m n left rest (sym (spelled-is_read tokens m left d) ∙ spelled-is_read tokens n rest e)

abbrev Cut : Type 0
Cut = Result (List Lexeme) ℕ

same_tokens : (s t : List Lexeme) → ◌≡◌ {A = Cut} (Ok s) (Ok t) → s ≡ t
same_tokens s t e = cc

pub one_model : (text : List ℕ) (m n : WrittenModel) → SpellsText text m → SpellsText text n → m ≡ n
one_model text m n a b =
    let same : b.tokens ≡ a.tokens = same_tokens b.tokens a.tokens (sym b.cut ∙ a.cut) in
    (one_reading a.tokens m n [] [] a.derived (subst (λ (l : List Lexeme). IsText l n) same b.derived)).0

-- ---- where the reader is stuck

cant_go_on : {A : Type 0} (f : LanguageFormat A) → fine level_lookahead f ≡ true → (u rest : List Lexeme) → language_reader f (u ++ rest) ≡ stuck rest → CantGoOn f u rest
cant_go_on f ok u [] e = tt
cant_go_on f ok u (t ∷ rest) e = λ c. stuck-there level_lookahead level_format levels-fine f ok u t rest e c.0 c.1 [] (begins-none (stop_sorts level_lookahead f)) (subst (λ (l : List Lexeme). Spells level_format f l c.1 []) (append_assoc u (t ∷ []) c.0) c.2)

-- the reader is stuck where no text goes on
pub stuck-is_wrong : {A : Type 0} (f : LanguageFormat A) → fine level_lookahead f ≡ true → (tokens rest : List Lexeme) → language_reader f tokens ≡ stuck rest → FirstWrong f tokens rest
stuck-is_wrong f ok tokens rest e =
    let a = language-viable f tokens rest e in
    record { front = a.0; whole = a.3; can_begin = (a.1 ++ [], a.2, a.4 []); cant_go_on = cant_go_on f ok a.0 rest (subst (λ (l : List Lexeme). language_reader f l ≡ stuck rest) a.3 e) }

-- a token that is left after a whole, in the same way
pub left-is_wrong : {A : Type 0} (f : LanguageFormat A) → fine level_lookahead f ≡ true → (tokens : List Lexeme) (x : A) (t : Lexeme) (rest : List Lexeme) → language_reader f tokens ≡ took x (t ∷ rest) → FirstWrong f tokens (t ∷ rest)
left-is_wrong f ok tokens x t rest e =
    let a = derives-framed (by_rule level_format) (rule-framed level_format) f tokens x (t ∷ rest) (sound level_lookahead level_format f tokens x (t ∷ rest) e) in
    record {
      front = a.0;
      whole = a.1;
      can_begin = ([], x, a.2 []);
      cant_go_on = λ c. left-there level_lookahead level_format levels-fine f ok a.0 t rest x (subst (λ (l : List Lexeme). language_reader f l ≡ took x (t ∷ rest)) a.1 e) c.0 c.1 (begins-none (stop_sorts level_lookahead f)) (subst (λ (l : List Lexeme). Spells level_format f l c.1 []) (append_assoc a.0 (t ∷ []) c.0) c.2);
    }

-- ---- all tokens are one whole of a format, or not

pub none_left : {A : Type 0} (r : Parse A) (x : A) (left : List Lexeme) → and_next whole_read r ≡ took x left → (r ≡ took x []) × (left ≡ [])
none_left (Ok (y, [])) x left e = let s = same_reading y x [] left e in (ap (λ z. took z []) s.0, sym s.1)
none_left (Ok (y, t ∷ rest)) x left e = absurd cc
none_left (Err rest) x left e = absurd cc

pub all-is_spelled : {A : Type 0} (f : LanguageFormat A) (tokens : List Lexeme) (x : A) (left : List Lexeme) → and_next whole_read (language_reader f tokens) ≡ took x left → Spells level_format f tokens x []
all-is_spelled f tokens x left e = sound level_lookahead level_format f tokens x [] (none_left (language_reader f tokens) x left e).0

pub spelled-is_all : {A : Type 0} (f : LanguageFormat A) → fine level_lookahead f ≡ true → (tokens : List Lexeme) (x : A) → Spells level_format f tokens x [] → and_next whole_read (language_reader f tokens) ≡ took x []
spelled-is_all f ok tokens x d = ap (and_next whole_read) (complete level_lookahead level_format levels-fine f ok tokens x [] (begins-none (stop_sorts level_lookahead f)) d)

pub one_value : {A : Type 0} (f : LanguageFormat A) → fine level_lookahead f ≡ true → (tokens : List Lexeme) (x y : A) → Spells level_format f tokens x [] → Spells level_format f tokens y [] → x ≡ y
one_value f ok tokens x y d e = (same_reading x y [] [] (sym (spelled-is_all f ok tokens x d) ∙ spelled-is_all f ok tokens y e)).0

stuck_or_left : {A : Type 0} (f : LanguageFormat A) → fine level_lookahead f ≡ true → (tokens rest : List Lexeme) (r : Parse A) → language_reader f tokens ≡ r → and_next whole_read r ≡ stuck rest → FirstWrong f tokens rest
stuck_or_left f ok tokens rest (Ok (m, [])) e g = absurd cc
stuck_or_left f ok tokens rest (Ok (m, t ∷ others)) e g = subst (λ (l : List Lexeme). FirstWrong f tokens l) (rests (t ∷ others) rest g) (left-is_wrong f ok tokens m t others e)
stuck_or_left f ok tokens rest (Err others) e g = subst (λ (l : List Lexeme). FirstWrong f tokens l) (rests others rest g) (stuck-is_wrong f ok tokens others e)

none_spelled : {A : Type 0} (f : LanguageFormat A) → fine level_lookahead f ≡ true → (tokens rest : List Lexeme) (x : A) → and_next whole_read (language_reader f tokens) ≡ stuck rest → Spells level_format f tokens x [] → ⊥
none_spelled f ok tokens rest x e d = let g : and_next whole_read (language_reader f tokens) ≡ took x [] = spelled-is_all f ok tokens x d in absurd cc

pub all-is_wrong : {A : Type 0} (f : LanguageFormat A) → fine level_lookahead f ≡ true → (text : List ℕ) (tokens rest : List Lexeme) → and_next whole_read (language_reader f tokens) ≡ stuck rest → IsWrongAt f text tokens (wrong_place text rest)
all-is_wrong f ok text tokens rest e = record { none = λ x d. none_spelled f ok tokens rest x e d; rest = rest; wrong = stuck_or_left f ok tokens rest (language_reader f tokens) refl e; at_rest = refl }

pub spelled_or_wrong : {A : Type 0} (f : LanguageFormat A) → fine level_lookahead f ≡ true → (text : List ℕ) (tokens : List Lexeme) → ((x : A) × Spells level_format f tokens x []) ⊎ ((at : ℕ) × IsWrongAt f text tokens at)
spelled_or_wrong {A} f ok text tokens = go (and_next whole_read (language_reader f tokens)) refl
  where
    go : (r : Parse A) → and_next whole_read (language_reader f tokens) ≡ r → ((x : A) × Spells level_format f tokens x []) ⊎ ((at : ℕ) × IsWrongAt f text tokens at)
    go (Ok r) e = inl (r.0, all-is_spelled f tokens r.0 r.1 e)
    go (Err rest) e = inr (wrong_place text rest, all-is_wrong f ok text tokens rest e)

-- ---- all tokens are one text, or not

pub whole-is_spelled : (tokens : List Lexeme) (m : WrittenModel) (left : List Lexeme) → text_read tokens ≡ took m left → IsText tokens m
whole-is_spelled tokens m left e = all-is_spelled text_format tokens m left e

pub refused-is_unexpected : (text : List ℕ) (tokens rest : List Lexeme) → text_read tokens ≡ stuck rest → IsUnexpectedAt text tokens (wrong_place text rest)
refused-is_unexpected text tokens rest e = all-is_wrong text_format text-fine text tokens rest e

pub spelled_or_unexpected : (text : List ℕ) (tokens : List Lexeme) → ((m : WrittenModel) × IsText tokens m) ⊎ ((at : ℕ) × IsUnexpectedAt text tokens at)
spelled_or_unexpected text tokens = spelled_or_wrong text_format text-fine text tokens

-- ---- there is one first wrong token

can_begin-front : {A : Type 0} (f : LanguageFormat A) (a b : List Lexeme) → CanBegin f (a ++ b) → CanBegin f a
can_begin-front f a b c = (b ++ c.0, c.1, subst (λ (l : List Lexeme). Spells level_format f l c.1 []) (append_assoc a b c.0) c.2)

-- of two fronts of a list the one is the other, or goes on with a token that is left of the other
abbrev Longer : List Lexeme → List Lexeme → List Lexeme → Type 0
Longer a r b = (t : Lexeme) × (u : List Lexeme) × (s : List Lexeme) × (b ≡ (a ++ t ∷ []) ++ u) × (r ≡ t ∷ s)

two_fronts : (a r b s : List Lexeme) → a ++ r ≡ b ++ s → (r ≡ s) ⊎ (Longer a r b ⊎ Longer b s a)
two_fronts [] r [] s e = inl e
two_fronts [] r (t ∷ b) s e = inr (inl (t, b, b ++ s, refl, e))
two_fronts (t ∷ a) r [] s e = inr (inr (t, a, a ++ r, refl, sym e))
two_fronts (t ∷ a) r (k ∷ b) s e =
    let h : t ≡ k = cc in
    let g : a ++ r ≡ b ++ s = cc in
    elim (two_fronts a r b s g) [
      | inl w ↦ inl w
      | inr (inl (x, u, v, p, q)) ↦ inr (inl (x, u, v, (λ i. (sym h) i ∷ p i), q))
      | inr (inr (x, u, v, p, q)) ↦ inr (inr (x, u, v, (λ i. h i ∷ p i), q))
    ]

not_longer : {A : Type 0} (f : LanguageFormat A) (a r b : List Lexeme) → CantGoOn f a r → CanBegin f b → Longer a r b → ⊥
not_longer f a r b stop c (t, u, s, p, q) =
    let next : CantGoOn f a (t ∷ s) = subst (λ (l : List Lexeme). CantGoOn f a l) q stop in
    next (can_begin-front f (a ++ t ∷ []) u (subst (λ (l : List Lexeme). CanBegin f l) p c))

pub one_first_wrong : {A : Type 0} (f : LanguageFormat A) (tokens r s : List Lexeme) → FirstWrong f tokens r → FirstWrong f tokens s → r ≡ s
one_first_wrong f tokens r s a b = elim (two_fronts a.front r b.front s (sym a.whole ∙ b.whole)) [
  | inl w ↦ w
  | inr (inl w) ↦ absurd (not_longer f a.front r b.front a.cant_go_on b.can_begin w)
  | inr (inr w) ↦ absurd (not_longer f b.front s a.front b.cant_go_on a.can_begin w)
]

pub one_wrong_place : {A : Type 0} (f : LanguageFormat A) (text : List ℕ) (tokens : List Lexeme) (i j : ℕ) → IsWrongAt f text tokens i → IsWrongAt f text tokens j → i ≡ j
one_wrong_place f text tokens i j a b = sym a.at_rest ∙ ap (wrong_place text) (one_first_wrong f tokens a.rest b.rest a.wrong b.wrong) ∙ b.at_rest

pub one_place : (text : List ℕ) (tokens : List Lexeme) (i j : ℕ) → IsUnexpectedAt text tokens i → IsUnexpectedAt text tokens j → i ≡ j
one_place text tokens i j a b = one_wrong_place text_format text tokens i j a b
