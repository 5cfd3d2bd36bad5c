-- A part that is read again and again, one more time.
use Rattle.std.proofs.Common.{◌≡◌, ℕ, zero, suc, ◌+◌, ◌≤◌, false, cond, List, [], ◌∷◌, length, refl, sym, ap, ◌∙◌, arith}
use Rattle.model_core.specs.Text.Lexing.{Lexeme}
use Rattle.model_core.specs.Text.Format.{TokenSort}
use Rattle.text_laws.specs.FirstTokens.{begins_among}
use Rattle.text_laws.specs.FormatReader.{Parse, Parser, took, stuck, and_next, many_within, many_at}
use Rattle.text_laws.proofs.Formats.TokenSorts.{begins-none}
use Rattle.text_laws.proofs.Formats.FormatLaws.{Shorter}
use Rattle.text_laws.proofs.Formats.RuleLaws.{same_next, same_choice}

none_left : {A : Type 0} (sorts : List TokenSort) (tokens : List Lexeme) (x y : Parse A) → length tokens ≤ 0 → cond (begins_among sorts tokens) x y ≡ y
none_left sorts [] x y few = let e : begins_among sorts [] ≡ false = begins-none sorts in rw e refl
none_left sorts (t ∷ tokens) x y few = absurd (omega arith)

pub enough : {A : Type 0} (sorts : List TokenSort) (p : Parser A) → Shorter p false → (m n : ℕ) (tokens : List Lexeme) → length tokens ≤ m → length tokens ≤ n → many_within m sorts p tokens ≡ many_within n sorts p tokens
unfolding many_within
enough sorts p shorter zero zero tokens few many = refl
enough sorts p shorter zero (suc n) tokens few many = none_left sorts tokens (stuck tokens) (took [] tokens) few ∙ sym (none_left sorts tokens _ (took [] tokens) few)
enough sorts p shorter (suc m) zero tokens few many = none_left sorts tokens _ (took [] tokens) many ∙ sym (none_left sorts tokens (stuck tokens) (took [] tokens) many)
enough sorts p shorter (suc m) (suc n) tokens few many = same_choice (begins_among sorts tokens) _ _ _ (same_next _ _ (p tokens)
    (λ x left e. let s : length left + 1 ≤ length tokens = shorter tokens x left e in ap (and_next (λ xs rest. took (x ∷ xs) rest)) (enough sorts p shorter m n left (omega arith) (omega arith))))

pub one_more : {A : Type 0} → List TokenSort → Parser A → Parser (List A)
one_more sorts p tokens = and_next (λ x left. and_next (λ xs rest. took (x ∷ xs) rest) (many_at sorts p left)) (p tokens)

from : {A : Type 0} (sorts : List TokenSort) (p : Parser A) → Shorter p false → (n : ℕ) (tokens : List Lexeme) → length tokens ≤ n → many_within n sorts p tokens ≡ cond (begins_among sorts tokens) (one_more sorts p tokens) (took [] tokens)
unfolding many_within many_at one_more
from sorts p shorter zero tokens few = none_left sorts tokens (stuck tokens) (took [] tokens) few ∙ sym (none_left sorts tokens _ (took [] tokens) few)
from sorts p shorter (suc n) tokens few = same_choice (begins_among sorts tokens) _ _ _ (same_next _ _ (p tokens)
    (λ x left e. let s : length left + 1 ≤ length tokens = shorter tokens x left e in ap (and_next (λ xs rest. took (x ∷ xs) rest)) (enough sorts p shorter n (length left) left (omega arith) (omega arith))))

pub repeated-is : {A : Type 0} (sorts : List TokenSort) (p : Parser A) → Shorter p false → (tokens : List Lexeme) → many_at sorts p tokens ≡ cond (begins_among sorts tokens) (one_more sorts p tokens) (took [] tokens)
unfolding many_at
repeated-is sorts p shorter tokens = from sorts p shorter (length tokens) tokens (omega arith)

pub one_more-ok : {A : Type 0} (sorts : List TokenSort) (p : Parser A) (tokens : List Lexeme) (x : A) (left : List Lexeme) → p tokens ≡ took x left → one_more sorts p tokens ≡ and_next (λ xs rest. took (x ∷ xs) rest) (many_at sorts p left)
unfolding one_more
one_more-ok sorts p tokens x left e = rw e refl

pub one_more-err : {A : Type 0} (sorts : List TokenSort) (p : Parser A) (tokens rest : List Lexeme) → p tokens ≡ stuck rest → one_more sorts p tokens ≡ stuck rest
unfolding one_more
one_more-err sorts p tokens rest e = rw e refl
