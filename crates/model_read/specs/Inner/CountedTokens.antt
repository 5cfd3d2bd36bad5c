-- How a count of openings takes a token.
use Rattle.std.specs.Prelude.{◌≡◌, Bool, true, false}
use Rattle.model_core.specs.Text.Lexing.{LexemeKind}
use Rattle.model_core.specs.Text.Openings.{ends_part, is_opening}
use Rattle.model_read.specs.declared.openings.OpeningStep.{OpeningStep}
use Rattle.model_read.specs.declared.openings.OpeningStep.TheVariants.{End, Opening, Other}

abbrev pub is_end : OpeningStep → Bool
is_end End = true
is_end Opening = false
is_end Other = false

abbrev pub opens : OpeningStep → Bool
opens End = false
opens Opening = true
opens Other = false

-- the answer is right for a token of this kind
abbrev pub IsCounted : OpeningStep → LexemeKind → Type 0
IsCounted c kind = (is_end c ≡ ends_part kind) × (opens c ≡ is_opening kind)
