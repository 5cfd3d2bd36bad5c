-- The marks are of what is watched.
use Rattle.std.proofs.Common.{◌∙◌, sym, ap, ap₂, ℕ, List, [], ◌++◌, map}
use Rattle.std.proofs.lemmas.List.{length-map}
use Rattle.std.proofs.lemmas.Result.{IfOk-weaker}
use Rattle.model_core.specs.Rules.Entailed.{entailed_marks}
use Rattle.model_core.specs.Rules.MarkedPlaces.{unmarked_places}
use Rattle.model_core.specs.EventGraph.{watched_variables}
use Rattle.model_core.specs.Code.Views.{variable_of, watched_of}
use Rattle.var_slicing.proofs.marking.unwatched.Goals as goal

pub returns : goal.returns
returns c =
    IfOk-weaker c.unmarked.result _ _
    (λ vars found. found
    ∙ ap unmarked_places
    (c.as_slice-3.ensures.value
    ∙ c.in_ok-marks.ensures
    ∙ ap₂ (λ (n : ℕ) (first : List ℕ). entailed_marks n first [])
    (c.len.ensures ∙ sym (length-map c.args.model.now.vars variable_of))
    (c.as_slice-2.ensures.value ∙ c.in_ok-add_watched.ensures ∙ ap (λ (before : List ℕ). before ++ watched_variables (map watched_of c.as_slice.result.now)) c.new-watched.ensures.items ∙ ap (λ watch. watched_variables (map watched_of watch)) c.as_slice.ensures)))
    c.unmarked.ensures
