use Rattle.std.proofs.Common.{◌≡◌, map, drop}
use Rattle.use_analysis.specs.UseRows.{uses_row}
use Rattle.use_analysis.specs.Inner.Noting.{noted_all}
use Rattle.use_analysis.proofs.table.note_all.Given as goal

abbrev pub invariant-loop-var : goal.invariant-loop-var
invariant-loop-var l =
    noted_all l.used (drop l.var-index l.vars) (map uses_row l.rows.items)
    ≡ noted_all l.used l.vars (map uses_row l.initial.rows.items)
