use Rattle.model_core.specs.Rules.Drop.{watched_renumbered}
use Rattle.model_core.specs.Code.Views.{watched_of}
use Rattle.mark_laws.proofs.WrittenAnew.{WrittenAnew}
use Rattle.marked_walks.proofs.renumbering.renumber_watch.Given as goal

abbrev pub invariant-loop-watched : goal.invariant-loop-watched
invariant-loop-watched g l = WrittenAnew watched_of (watched_renumbered (g.N.NewPlaces.moved l.places)) l.watched-index l.initial.watched-items l.watched-items
