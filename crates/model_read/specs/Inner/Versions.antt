-- The line of the version, as plain data.
use Rattle.model_core.specs.Code.WrittenViews.{written_number}
use Rattle.model_core.specs.Text.Language.{VersionLine}
use Rattle.model_read.specs.declared.text.RawVersion.{RawVersion}

-- the place of the word `version` and the number after it, as they are written
abbrev pub written_version : RawVersion → VersionLine
written_version v = record { at = v.at; number = written_number v.number }
