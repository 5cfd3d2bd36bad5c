use Rattle.std.proofs.Common.{◌≡◌, ℕ, get_or, take, bit_or}
use Rattle.conflict_report.proofs.vertex_set.join.Given as goal

abbrev pub invariant-loop-i : goal.invariant-loop-i
invariant-loop-i l = (j : ℕ) → get_or l.words j 0 ≡ bit_or (get_or l.initial.words j 0) (get_or (take l.i l.others) j 0)
