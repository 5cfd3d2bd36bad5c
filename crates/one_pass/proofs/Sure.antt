-- What has no fault is checked without one.
use Rattle.std.proofs.Common.{ℕ, List, Option, refl}
use Rattle.model_core.specs.Text.Lexing.{Lexeme}
use Rattle.model_core.specs.Text.Expressions.{LanguageFormat}
use Rattle.model_core.specs.Text.Numbering.{Declared}
use Rattle.model_core.specs.Static.FaultOrder.{StaticFault}
use Rattle.model_core.specs.Static.Meanings.{Meaning}
use Rattle.one_pass.specs.Inner.ReadParts.{ReadSure, ReadChecked}

pub sure_is_checked : {W B : Type 0} (f : LanguageFormat W) (means : List ℕ → Option Meaning) (faults : W → List StaticFault) (number : Declared → W → Option B) (t : Option StaticFault) (before after : List Lexeme) (part : B)
    → ReadSure f means faults number before after part → ReadChecked f means faults number t t before after part
sure_is_checked f means faults number t before after part r = record { written = r.written; read = r.read; checked = record { earliest = rw r.unbroken refl; unbroken = λ e. r.numbers } }
