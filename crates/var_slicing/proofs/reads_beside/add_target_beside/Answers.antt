-- What is added in two steps is added at once.
use Rattle.std.proofs.Common.{◌∙◌, List, ℕ, ap}
use Rattle.std.proofs.lemmas.Result.{on_ok_weaker}
use Rattle.model_core.specs.Rules.Uses.{variables_in, location_reads}
use Rattle.model_core.specs.Code.Views.{location_of, expression_of}
use Rattle.var_slicing.specs.Inner.Needing.{with_reads}
use Rattle.var_slicing.proofs.ReadsBeside.{both-added}
use Rattle.var_slicing.proofs.reads_beside.add_target_beside.Goals as goal

pub returns : goal.returns
returns c =
    let marks = c.args.marks.now in
    let v = c.args.target.now.var in
    let reads = variables_in (expression_of c.args.value.now) in
    on_ok_weaker c.add_reads_beside.result
    (λ same. same ∙ ap (λ (pairs : List (ℕ × ℕ)). with_reads marks v pairs reads) c.in_ok-add_index_beside.ensures ∙ both-added marks v c.args.pairs.now.items (location_reads (location_of c.args.target.now)) reads)
    c.add_reads_beside.ensures
