use Rattle.std.proofs.Common.{◌≡◌, map, drop}
use Rattle.model_core.specs.Code.Views.{change_of}
use Rattle.var_slicing.specs.Inner.Needing.{collected_of, with_changes}
use Rattle.var_slicing.proofs.needs.Needs.add_changes.Given as goal

abbrev pub invariant-loop-change : goal.invariant-loop-change
invariant-loop-change l = with_changes l.marks (map change_of (drop l.change-index l.changes)) (collected_of l.self) ≡ with_changes l.marks (map change_of l.changes) (collected_of l.initial.self)
