-- Notes that are taken one after the other.
use Rattle.std.proofs.Common.{◌≡◌, List, [], ◌∷◌, ◌++◌, ap, sym, ◌∙◌, refl}
use Rattle.model_core.specs.EventGraph.{EventGraph}
use Rattle.model_core.specs.Run.Machine.{Note}
use Rattle.tally_report.specs.Inner.Sums.{Tallied, after_note, after_notes}

after_notes-append : (g : EventGraph) (a b : List Note) (t : Tallied) → after_notes g (a ++ b) t ≡ after_notes g b (after_notes g a t)
after_notes-append g [] b t = refl
after_notes-append g (note ∷ a) b t = after_notes-append g a b (after_note g note t)

pub after_both : (g : EventGraph) (a b : List Note) (s t u : Tallied) → t ≡ after_notes g a s → u ≡ after_notes g b t → u ≡ after_notes g (a ++ b) s
after_both g a b s t u p q = q ∙ ap (after_notes g b) p ∙ sym (after_notes-append g a b s)
