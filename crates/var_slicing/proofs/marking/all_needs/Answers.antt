-- What is known is marked by what is needed at once.
use Rattle.std.proofs.Common.{◌∙◌, sym, ap, ap₂, ℕ, Bool, List, []}
use Rattle.std.proofs.lemmas.List.{length-map}
use Rattle.model_core.specs.Rules.Entailed.{entailed_marks}
use Rattle.model_core.specs.Code.Views.{graph_of, variable_of}
use Rattle.var_slicing.specs.Inner.Needing.{Collected, with_all_pairs, with_drawn}
use Rattle.var_slicing.proofs.marking.all_needs.Goals as goal

pub returns : goal.returns
returns c =
    let g = graph_of c.args.model.now in
    c.in_ok-add_parts.ensures
    ∙ ap₂ (λ (marks : List Bool) (n : Collected). with_drawn (with_all_pairs marks g n))
    (c.as_slice-2.ensures.value ∙ c.in_ok-marks.ensures
    ∙ ap₂ (λ (k : ℕ) (first : List ℕ). entailed_marks k first []) (c.len.ensures ∙ sym (length-map c.args.model.now.vars variable_of)) (c.as_slice.ensures.value ∙ ap (λ (n : Collected). n.first) c.in_ok-needs.ensures))
    c.in_ok-needs.ensures
