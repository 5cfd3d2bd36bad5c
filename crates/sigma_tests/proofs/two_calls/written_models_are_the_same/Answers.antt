use Rattle.std.proofs.Common.{sym, subst}
use Rattle.model_core.specs.EventGraph.{EventGraph}
use Rattle.model_core.specs.Run.Same.{Same}
use Rattle.sigma_tests.proofs.two_calls.written_models_are_the_same.Goals as goal

pub returns : goal.returns
returns c = λ g h lines first second shown.
    let tell = c.canonical_texts_determine_models.ensures in
    let original = tell.alone g shown.original first shown.original_text shown.print_wrote in
    let smaller = tell.certified h shown.smaller lines shown.lines second shown.smaller_text shown.reduce_wrote in
    subst (Same g) (sym smaller) (subst (λ (k : EventGraph). Same k shown.smaller) (sym original) shown.same)
