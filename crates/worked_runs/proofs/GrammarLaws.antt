-- A text as computed, and by the grammar.
use Rattle.std.proofs.Common.{◌≡◌, ℕ, true, List, [], ◌∷◌, refl, ap, subst}
use Rattle.std.specs.Prelude.{Option, Some, None, is_some, Result, Ok, Err}
use Rattle.std.proofs.lemmas.Option.{same_Some}
use Rattle.model_core.specs.Text.Lexing.{Lexeme, tokens_of}
use Rattle.model_core.specs.Text.Written.{WrittenModel}
use Rattle.model_core.specs.Text.Expressions.{LanguageFormat, level_format}
use Rattle.model_core.specs.Text.Language.{text_format}
use Rattle.model_core.specs.Text.FirstWrong.{IsUnexpectedAt, wrong_place}
use Rattle.model_core.specs.Text.Openings.{front_to_end}
use Rattle.text_laws.specs.FormatReader.{Parse, took, and_next, whole_read}
use Rattle.text_laws.specs.LanguageReader.{level_lookahead, language_reader, text_read}
use Rattle.text_laws.proofs.Formats.RuleLaws.{sound}
use Rattle.text_laws.proofs.Formats.TextLaws.{refused-is_unexpected}
use Rattle.worked_runs.specs.GrammarTexts.{IsSpelled, IsModelText, IsRefusedAt, IsFrontRefusedAt, value_taken, place_stuck, value_of_tokens, read_as, place_of_tokens, refused_at, front_of_tokens, front_refused_at}

whole : {A : Type 0} (r : Parse A) (x : A) → value_taken (and_next whole_read r) ≡ Some x → r ≡ took x []
whole (Ok (y, [])) x e = ap (λ z. took z []) (same_Some y x e)
whole (Ok (y, t ∷ rest)) x e = absurd cc
whole (Err rest) x e = absurd cc

pub is_spelled : {A : Type 0} {f : LanguageFormat A} {text : List ℕ} {x : A} → read_as f text ≡ Some x → IsSpelled f text x
is_spelled {A} {f} {text} {x} e = go (tokens_of text) refl e
  where
    go : (r : Result (List Lexeme) ℕ) → tokens_of text ≡ r → value_of_tokens f r ≡ Some x → IsSpelled f text x
    go (Ok tokens) cut e = record { tokens = tokens; cut = cut; spelled = sound level_lookahead level_format f tokens x [] (whole (language_reader f tokens) x e) }
    go (Err at) cut e = absurd cc

pub is_model : {text : List ℕ} → is_some (read_as text_format text) ≡ true → IsModelText text
is_model {text} e = go (read_as text_format text) refl e
  where
    go : (r : Option WrittenModel) → read_as text_format text ≡ r → is_some r ≡ true → IsModelText text
    go (Some m) same e = record { model = m; spelled = is_spelled same }
    go None same e = absurd cc

refusal : (text : List ℕ) (tokens : List Lexeme) (at : ℕ) → place_stuck text (text_read tokens) ≡ Some at → IsUnexpectedAt text tokens at
refusal text tokens at e = go (text_read tokens) refl e
  where
    go : (r : Parse WrittenModel) → text_read tokens ≡ r → place_stuck text r ≡ Some at → IsUnexpectedAt text tokens at
    go (Ok r) same e = absurd cc
    go (Err rest) same e = subst (λ k. IsUnexpectedAt text tokens k) (same_Some (wrong_place text rest) at e) (refused-is_unexpected text tokens rest same)

pub refused : {text : List ℕ} {at : ℕ} → refused_at text ≡ Some at → IsRefusedAt text at
refused {text} {at} e = go (tokens_of text) refl e
  where
    go : (r : Result (List Lexeme) ℕ) → tokens_of text ≡ r → place_of_tokens text r ≡ Some at → IsRefusedAt text at
    go (Ok tokens) cut e = record { tokens = tokens; cut = cut; unexpected = refusal text tokens at e }
    go (Err k) cut e = absurd cc

pub front_refused : {text : List ℕ} {at : ℕ} → front_refused_at text ≡ Some at → IsFrontRefusedAt text at
front_refused {text} {at} e = go (tokens_of text) refl e
  where
    go : (r : Result (List Lexeme) ℕ) → tokens_of text ≡ r → place_of_tokens text (front_of_tokens r) ≡ Some at → IsFrontRefusedAt text at
    go (Ok tokens) cut e = record { tokens = tokens; cut = cut; unexpected = refusal text (front_to_end tokens) at e }
    go (Err k) cut e = absurd cc
