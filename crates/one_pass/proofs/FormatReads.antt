-- Parts of a format, read one after another or left out.
use Rattle.std.proofs.Common.{◌≡◌, ℕ, true, false, List, Option, Some, None, Result, Ok, Err, refl}
use Rattle.std.specs.Prelude.{IfOk}
use Rattle.model_core.specs.Text.Lexing.{Lexeme}
use Rattle.model_core.specs.Text.Format.{◌*>◌, maybe}
use Rattle.model_core.specs.Text.Expressions.{LanguageFormat}
use Rattle.model_core.specs.Text.Numbering.{Declared, written_or}
use Rattle.model_core.specs.Static.FaultOrder.{StaticFault}
use Rattle.model_core.specs.Static.Meanings.{Meaning}
use Rattle.model_core.specs.Static.PartFaults.{if_written}
use Rattle.text_laws.specs.FirstTokens.{first_sorts, begins_among}
use Rattle.text_laws.specs.FormatReader.{took}
use Rattle.text_laws.specs.LanguageReader.{level_lookahead, language_reader}
use Rattle.one_pass.specs.Inner.ReadParts.{ReadSure}

-- what holds of a call's result, from something else that holds of it
pub still : {T E : Type 0} (P Q : T → Type 0) (r : Result T E) → ((x : T) → P x → Q x) → IfOk r P → IfOk r Q
still P Q (Ok x) h p = h x p
still P Q (Err e) h p = tt

pub follows : {A B : Type 0} (p : LanguageFormat A) (q : LanguageFormat B) (before between after : List Lexeme) (x : A) (y : B)
    → language_reader p before ≡ took x between → language_reader q between ≡ took y after → language_reader (p *> q) before ≡ took y after
follows p q before between after x y e g = rw (e, g) refl

pub comes : {A : Type 0} (p : LanguageFormat A) (before after : List Lexeme) (x : A) → begins_among (first_sorts level_lookahead p) before ≡ true
    → language_reader p before ≡ took x after → language_reader (maybe p) before ≡ took (Some x) after
comes p before after x begun e = rw (begun, e) refl

pub absent : {A : Type 0} (p : LanguageFormat A) (before : List Lexeme) → begins_among (first_sorts level_lookahead p) before ≡ false → language_reader (maybe p) before ≡ took None before
absent p before begun = rw begun refl

module _ {A B : Type 0} (f : LanguageFormat A) (means : List ℕ → Option Meaning) (faults : A → List StaticFault) (number : Declared → A → Option B) where
  -- a part after a token
  pub after_a_token : {W : Type 0} (p : LanguageFormat W) (before between after : List Lexeme) (w : W) (x : B) → language_reader p before ≡ took w between
      → ReadSure f means faults number between after x → ReadSure (p *> f) means faults number before after x
  after_a_token p before between after w x e r = record { written = r.written; read = follows p f before between after w r.written e r.read; unbroken = r.unbroken; numbers = r.numbers }

  -- a part that may be left out, and is there
  pub is_there : (default : B) (before after : List Lexeme) (x : B) → begins_among (first_sorts level_lookahead f) before ≡ true
      → ReadSure f means faults number before after x → ReadSure (maybe f) means (if_written faults) (λ d. written_or (number d) default) before after x
  is_there default before after x begun r = record { written = Some r.written; read = comes f before after r.written begun r.read; unbroken = r.unbroken; numbers = r.numbers }

  -- a part that is left out
  pub is_left_out : (default : B) (before : List Lexeme) → begins_among (first_sorts level_lookahead f) before ≡ false
      → ReadSure (maybe f) means (if_written faults) (λ d. written_or (number d) default) before before default
  is_left_out default before begun = record { written = None; read = absent f before begun; unbroken = refl; numbers = λ d p. refl }
