-- Of three variables, and of the two that changes set.
use Rattle.std.proofs.Common.{ℕ, ◌<◌, zero, suc, pos, neg_ℤ, List, refl, arith}
use Rattle.std.proofs.lemmas.Int.{ints}
use Rattle.model_core.specs.declared.var_range.VarRange.{VarRange}
use Rattle.model_core.specs.Run.State.{variable_at}
use Rattle.model_core.specs.Rules.BoundsTable.{exact_bounds}
use Rattle.model_core.specs.Ranges.OtherRanges.{LiesIn, range_at}
use Rattle.model_core.specs.Ranges.Inductive.{Encloses, FitsVariable}
use Rattle.worked_runs.specs.NarrowModel.{turning, range, of_three}
use Rattle.worked_runs.proofs.needed_ranges.ranges_are_checked.Goals as goal

abbrev declared : List VarRange
declared = of_three (range (pos 0) (pos 1000)) (range (neg_ℤ (pos 50)) (pos 50)) (range (pos 0) (pos 1000000))

abbrev narrower : List VarRange
narrower = of_three (range (pos 0) (pos 4)) (range (pos 3) (pos 3)) (range (pos 0) (pos 1000000))

declared_fits : (v : ℕ) → v < 3 → FitsVariable turning v (range_at declared v)
declared_fits zero small = record { ordered = omega (arith, ints); inside = record { low = omega (arith, ints); high = omega (arith, ints) }; fixed = λ is. refl }
declared_fits (suc zero) small = record { ordered = omega (arith, ints); inside = record { low = omega (arith, ints); high = omega (arith, ints) }; fixed = λ is. refl }
declared_fits (suc (suc zero)) small = record { ordered = omega (arith, ints); inside = record { low = omega (arith, ints); high = omega (arith, ints) }; fixed = λ is. refl }
declared_fits (suc (suc (suc v))) small = absurd (omega arith)

narrower_fits : (v : ℕ) → v < 3 → FitsVariable turning v (range_at narrower v)
narrower_fits zero small = record { ordered = omega (arith, ints); inside = record { low = omega (arith, ints); high = omega (arith, ints) }; fixed = λ is. cc }
narrower_fits (suc zero) small = record { ordered = omega (arith, ints); inside = record { low = omega (arith, ints); high = omega (arith, ints) }; fixed = λ is. cc }
narrower_fits (suc (suc zero)) small = record { ordered = omega (arith, ints); inside = record { low = omega (arith, ints); high = omega (arith, ints) }; fixed = λ is. refl }
narrower_fits (suc (suc (suc v))) small = absurd (omega arith)

begins : (v : ℕ) → v < 3 → LiesIn (range_at declared v) (variable_at turning v).initial
begins zero small = record { low = omega (arith, ints); high = omega (arith, ints) }
begins (suc zero) small = record { low = omega (arith, ints); high = omega (arith, ints) }
begins (suc (suc zero)) small = record { low = omega (arith, ints); high = omega (arith, ints) }
begins (suc (suc (suc v))) small = absurd (omega arith)

pub returns-clause-declared_fit : goal.returns-clause-declared_fit
returns-clause-declared_fit c = record { as_many = refl; each = declared_fits }

-- N takes what is below 5 and 1 more, or 0. K takes what it has and 1 more, cut at its clip
pub returns-clause-declared : goal.returns-clause-declared
unfolding exact_bounds
returns-clause-declared c =
    let turns : Encloses (range (pos 0) (pos 1000)) (range (pos 0) (pos 5)) = record { low = omega (arith, ints); high = omega (arith, ints) } in
    let grows : Encloses (range (pos 0) (pos 1000000)) (range (pos 1) (pos 1000000)) = record { low = omega (arith, ints); high = omega (arith, ints) } in
    record { begins = begins; takes = (turns, (grows, tt)) }

pub returns-clause-narrower_fit : goal.returns-clause-narrower_fit
returns-clause-narrower_fit c = record { as_many = refl; each = narrower_fits }

pub returns-clause-narrower : goal.returns-clause-narrower
unfolding exact_bounds
returns-clause-narrower c = λ s.
    let turns : Encloses (range (pos 0) (pos 4)) (range (pos 1) (pos 5)) = s.takes.0 refl in
    absurd (omega (arith, ints, turns.high))
