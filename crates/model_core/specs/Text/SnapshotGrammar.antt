-- The grammar of a snapshot, one format a rule:
--
--   snapshot = 'snapshot' 'seed' number number 'clk' number 'events' number
--              {'stream' number number} {'value' name list(signed)} ['noted' [list(signed)]]
--              {'pending' number number name ['(' list(signed) ')']} 'end'
--
-- Words in quotes are tokens, {x} is any number of x, [x] is x or nothing, and list(x) is one or more x with commas between.
-- Of the words only `clk` and `end` are reserved. The others are names with this spelling, which name something else where a
-- name is asked for.
use Rattle.std.specs.Prelude.{ℕ, Bool, true, false, List, [], Option, unwrap_or, codes}
use Rattle.model_core.specs.declared.token.Word.TheVariants as words
use Rattle.model_core.specs.declared.token.Symbol.TheVariants as symbols
use Rattle.model_core.specs.Text.Lexing.{Lexeme}
use Rattle.model_core.specs.Text.Written.{WrittenName, WrittenNumber, WrittenSigned}
use Rattle.model_core.specs.Text.Format.{Single, ANumber, number_exact, Yields, Many, Spells, reserved, this_name, mark, any_name, any_number, ◌<*>◌, ◌<*◌, ◌*>◌, ◌<|>◌, maybe, separated}
use Rattle.model_core.specs.Text.Expressions.{LanguageFormat, level_format}
use Rattle.model_core.specs.Text.Language.{signed_format}
use Rattle.model_core.specs.Text.FirstWrong.{IsWrongAt}

-- ---- the parts as they are written, each with the byte at which its first token begins

pub record WrittenStream : Type 0 where
  pub at : ℕ
  pub stream : WrittenNumber
  pub words : WrittenNumber

pub record WrittenValue : Type 0 where
  pub at : ℕ
  pub variable : WrittenName
  pub values : List WrittenSigned

pub record WrittenNoted : Type 0 where
  pub at : ℕ
  pub values : List WrittenSigned

-- a value that an event carries: its sign, and what its digits write, which may be 2^63
pub record WrittenCarried : Type 0 where
  pub negative : Bool
  pub exact : ℕ

pub record WrittenPending : Type 0 where
  pub at : ℕ
  pub ticks : WrittenNumber
  pub priority : WrittenNumber
  pub vertex : WrittenName
  pub values : List WrittenCarried

pub record WrittenSnapshot : Type 0 where
  pub seed_at : ℕ
  pub seed : WrittenNumber
  pub seed_rest : WrittenNumber
  pub clock_at : ℕ
  pub clock : WrittenNumber
  pub events_at : ℕ
  pub events : WrittenNumber
  pub streams : List WrittenStream
  pub values : List WrittenValue
  pub noted : Option WrittenNoted
  pub pending : List WrittenPending
  pub end_at : ℕ

-- ---- the rules

unfoldable pub stream_format : LanguageFormat WrittenStream
stream_format = Yields (λ at stream words. record { at = at; stream = stream; words = words }) <*> this_name (codes "stream") <*> any_number <*> any_number

unfoldable pub value_format : LanguageFormat WrittenValue
value_format = Yields (λ at variable values. record { at = at; variable = variable; values = values }) <*> this_name (codes "value") <*> any_name <*> separated signed_format

unfoldable pub noted_format : LanguageFormat WrittenNoted
noted_format = Yields (λ at values. record { at = at; values = unwrap_or values [] }) <*> this_name (codes "noted") <*> maybe (separated signed_format)

unfoldable pub exact_format : LanguageFormat ℕ
exact_format = Single ANumber (λ t. number_exact t.kind)

unfoldable pub carried_format : LanguageFormat WrittenCarried
carried_format =
    Yields (λ at n. record { negative = true; exact = n }) <*> mark symbols.Minus <*> exact_format
    <|> Yields (λ n. record { negative = false; exact = n }) <*> exact_format

unfoldable pub carries_format : LanguageFormat (List WrittenCarried)
carries_format = mark symbols.OpenParenthesis *> separated carried_format <* mark symbols.CloseParenthesis

unfoldable pub pending_format : LanguageFormat WrittenPending
pending_format =
    Yields (λ at ticks priority vertex values. record { at = at; ticks = ticks; priority = priority; vertex = vertex; values = unwrap_or values [] })
    <*> this_name (codes "pending") <*> any_number <*> any_number <*> any_name <*> maybe carries_format

unfoldable pub snapshot_format : LanguageFormat WrittenSnapshot
snapshot_format =
    Yields (λ seed_at seed rest clock_at clock events_at events streams values noted pending end_at.
    record { seed_at = seed_at; seed = seed; seed_rest = rest; clock_at = clock_at; clock = clock; events_at = events_at; events = events; streams = streams; values = values; noted = noted; pending = pending; end_at = end_at })
    <* this_name (codes "snapshot") <*> this_name (codes "seed") <*> any_number <*> any_number <*> reserved words.Clk <*> any_number <*> this_name (codes "events") <*> any_number
    <*> Many stream_format <*> Many value_format <*> maybe noted_format <*> Many pending_format <*> reserved words.End

-- The tokens are one snapshot, written so.
abbrev pub IsSnapshot : List Lexeme → WrittenSnapshot → Type 0
IsSnapshot tokens s = Spells level_format snapshot_format tokens s []

-- the tokens of this text are no snapshot, and this is the place at which they stop to begin one
abbrev pub IsNoSnapshotAt : List ℕ → List Lexeme → ℕ → Type 0
IsNoSnapshotAt text tokens at = IsWrongAt snapshot_format text tokens at
