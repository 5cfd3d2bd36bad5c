-- Parts beside one another that were read and checked at once.
use Rattle.std.specs.Prelude.{◌≡◌, List, [], ◌∷◌}
use Rattle.model_core.specs.Text.Lexing.{Lexeme}
use Rattle.model_core.specs.Text.Expressions.{LanguageFormat}
use Rattle.text_laws.specs.FormatReader.{took}
use Rattle.text_laws.specs.LanguageReader.{language_reader}

-- what is written, one beside the other, is each time this, of this kind
abbrev pub AllAre : {W B K : Type 0} → (W → B → K → Type 0) → List W → List B → List K → Type 0
AllAre Is [] [] [] = Unit {0}
AllAre Is (w ∷ ws) (x ∷ xs) (k ∷ ks) = Is w x k × AllAre Is ws xs ks
AllAre Is ws xs ks = ⊥

-- such parts between these tokens
pub record ReadRow {W B K : Type 0} (f : LanguageFormat (List W)) (Is : W → B → K → Type 0) (before after : List Lexeme) (xs : List B) (ks : List K) : Type 0 where
  pub written : List W
  pub read : language_reader f before ≡ took written after
  pub all : AllAre Is written xs ks
