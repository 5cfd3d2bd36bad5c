use Rattle.std.proofs.Common.{◌≤◌, length}
use Rattle.twin_rules.proofs.same_doing.have_same_targets_for.Given as goal

-- no place before this one differs in the two lists
abbrev pub invariant-loop-place : goal.invariant-loop-place
invariant-loop-place l = l.place ≤ length l.a
