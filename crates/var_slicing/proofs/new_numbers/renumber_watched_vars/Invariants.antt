use Rattle.model_core.specs.Rules.Slice.{sliced_watched}
use Rattle.model_core.specs.Code.Views.{watched_of}
use Rattle.mark_laws.proofs.WrittenAnew.{WrittenAnew}
use Rattle.var_slicing.proofs.new_numbers.renumber_watched_vars.Given as goal

abbrev pub invariant-loop-watched : goal.invariant-loop-watched
invariant-loop-watched l = WrittenAnew watched_of (sliced_watched l.staying) l.watched-index l.initial.watched-items l.watched-items
