-- The run is one of the model, and has made at most as many steps as there were.
use Rattle.std.proofs.Common.{◌≡◌, ◌≤◌}
use Rattle.run_tests.proofs.parts.after_six_steps.Given as goal

abbrev pub invariant-loop-i : goal.invariant-loop-i
invariant-loop-i g l = (l.run.model ≡ l.model) × (l.run.turns ≤ l.i)
