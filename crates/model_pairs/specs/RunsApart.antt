-- Where two runs show that their models don't mean the same: the first line at which their histories differ.
use Rattle.std.specs.Prelude.{ℕ, ℤ, cond, List, [], ◌++◌, Option}
use Rattle.std.specs.List.{flat_map}
use Rattle.model_core.specs.EventGraph.{EventGraph}
use Rattle.model_core.specs.Run.Machine.{Look, finished}
use Rattle.model_core.specs.Run.History.{look}
use Rattle.model_core.specs.Text.HistoryText.{note_line, end_line}
use Rattle.model_pairs.specs.declared.lines_apart.LinesApart.{LinesApart}
use Rattle.model_pairs.specs.LinesOfTexts.{lines_of, first_lines_apart}

-- the text of what is seen of a run, without the line that says that its budget is spent
abbrev pub shown_text : EventGraph → ℕ → ℕ → Look → List ℕ
shown_text g until events seen = flat_map (note_line g) seen.history ++ cond (finished seen.standing) (end_line until events seen.standing) []

-- the first lines that differ of two runs with this seed, these starting values and this stop time, each after at most so many events
abbrev pub runs_apart : EventGraph → EventGraph → ℕ → ℕ → ℕ → List ℤ → Option LinesApart
runs_apart g h seed until events starts =
    first_lines_apart 1 (lines_of (shown_text g until events (look g seed starts until events))) (lines_of (shown_text h until events (look h seed starts until events)))
