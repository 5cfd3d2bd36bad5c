-- The added values are good where each value fits, since the name is the variable's and there are as many.
use Rattle.std.proofs.Common.{rules, w64, ◌≡◌, List, Bool, IfOk, length, map, ap, ◌∙◌, subst}
use Rattle.std.specs.List.{list_all}
use Rattle.std.proofs.lemmas.Int.{to_z-of_z}
use Rattle.std.proofs.lemmas.List.{length-map}
use Rattle.model_core.specs.declared.raw.RawSigned.{RawSigned}
use Rattle.model_core.specs.Run.State.{cell_count}
use Rattle.model_core.specs.Code.Views.{variable_of}
use Rattle.model_core.specs.Code.WrittenViews.{written_signed}
use Rattle.snapshot_text.specs.Inner.Judging.{fits_between}
use Rattle.snapshot_text.specs.Inner.RawParts.{written_value}
use Rattle.snapshot_text.proofs.FittingValues.{same_so_far}
use Rattle.snapshot_text.proofs.values.add_value.Goals as goal

pub returns-clause-all : goal.returns-clause-all
returns-clause-all c =
    let v = variable_of c.args.var.now in
    let w = written_value c.args.value.now in
    let named : w.variable.name ≡ v.name = search rules in
    let count : length w.values ≡ cell_count v = search (rules, length-map) in
    subst (λ (b : Bool). IfOk c.add_fitting.result (λ good. good ≡ b)) (ap (λ (l : List RawSigned). list_all (fits_between v.lo v.hi) (map written_signed l)) c.as_slice-2.ensures ∙ same_so_far v w named count)
    (rw (to_z-of_z w64 v.lo (search rules), to_z-of_z w64 v.hi (search rules)) at c.add_fitting.ensures.all)
