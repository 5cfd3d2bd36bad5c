-- The source of a draw, as plain data.
use Rattle.model_core.specs.Code.WrittenViews.{written_number, written_choice}
use Rattle.model_core.specs.Text.Written.{WrittenSource}
use Rattle.model_read.specs.declared.changes.RawSource.{RawSource}

-- the stream and what is drawn from it, as they are written
abbrev pub written_source : RawSource → WrittenSource
written_source s = record { stream = written_number s.stream; choice = written_choice s.choice }
