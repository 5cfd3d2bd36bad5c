-- The ranges that were kept last are left again, or none were kept.
use Rattle.std.proofs.Common.{◌≡◌, length, arith}
use Rattle.range_infer.proofs.KeptBack.{last_back, nothing_back}
use Rattle.range_infer.proofs.postfix_bounds.put_back.Goals as goal

pub returns-in_default : goal.returns-in_default
returns-in_default c = λ first w on_walk.
    let old = c.args.kept.now in
    let new = c.pop.new.self in
    let none : length old.items ≡ 0 = omega (arith, c.in_default.ensures.cases.0, old.ok) in
    let left : length new.items ≡ 0 = omega (arith, c.in_default.ensures.cases.1, new.ok) in
    nothing_back first c.args.left.now old.items new.items w none left on_walk

pub returns-in-Some : goal.returns-in-Some
returns-in-Some c = λ first w on_walk.
    last_back first c.args.left.now c.restore_ranges.new.left c.args.kept.now.items c.pop.new.self.items c.in-Some.count w c.in-Some.ensures.items c.restore_ranges.ensures on_walk
