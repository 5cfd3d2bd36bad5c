use Rattle.std.proofs.Common.{◌≡◌, ◌*◌, pos, ◌≤ℤ◌, neg_ℤ, map, take}
use Rattle.model_core.specs.Code.Views.{weighted_of}
use Rattle.model_core.specs.Code.WrittenViews.{written_row}
use Rattle.model_core.specs.Text.Numbering.{each_numbered, row}
use Rattle.model_core.specs.Static.PartFaults.{rows_faults}
use Rattle.static_laws.specs.Checked.{CheckedPlain}
use Rattle.sig_types.proofs.RowSums.{weights_sum}
use Rattle.sig_types.proofs.tables.rows.Given as goal

-- the rows before this one are checked, and their weights are summed: each is at most 2^63
abbrev pub invariant-loop-raw : goal.invariant-loop-raw
invariant-loop-raw l =
    let seen = map written_row (take l.raw-index l.raws) in
    record {
      checked : CheckedPlain l.fn.fault l.fault (rows_faults (pos 0) seen) (each_numbered row seen) (map weighted_of l.rows.items);
      sum : l.sum ≡ weights_sum (pos 0) seen;
      low : neg_ℤ (pos (l.raw-index * 9223372036854775808)) ≤ℤ l.sum;
      high : l.sum ≤ℤ pos (l.raw-index * 9223372036854775808);
    }
