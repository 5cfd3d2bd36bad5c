use Rattle.std.proofs.Common.{arith}
use Rattle.worked_runs.proofs.spellable.some_parts_are_not_written.Goals as goal

pub returns : goal.returns
returns c = record {
  negative_number = λ h. h;
  signed_number = omega arith;
  no_fourth_variable = λ h. omega (arith, h);
  reserved_word = λ h. let e = h.free in cc;
  empty_name = λ h. h.begins;
  digit_before = λ h. let e = h.begins in cc;
  next_carries_nothing = λ h. let e = h in cc;
  equal_carries_something = λ h. h;
}
