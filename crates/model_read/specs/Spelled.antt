-- What a name and digits in a text represent.
use Rattle.std.specs.Prelude.{ℕ}
use Rattle.model_core.specs.Text.Lexing.{digits_value}
use Rattle.model_core.specs.Text.Written.{WrittenName}
use Rattle.model_read.specs.declared.cursor.Spelling.{Spelling}

-- the name that the bytes of a text spell, with its place
abbrev pub spelled_name : Spelling → WrittenName
spelled_name s = record { name = s.bytes.now; at = s.at }

-- the number that the digits of a text write, however great
abbrev pub digits_written : Spelling → ℕ
digits_written s = digits_value s.bytes.now
