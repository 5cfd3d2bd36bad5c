-- What is collected is what is needed, and is found over the list of each variable.
use Rattle.std.proofs.Common.{◌∙◌, sym, ap, ℕ, List, ◌++◌}
use Rattle.std.specs.List.{flat_map}
use Rattle.std.proofs.lemmas.List.{length-map}
use Rattle.std.proofs.lemmas.Result.{IfOk-weaker}
use Rattle.model_core.specs.Code.Views.{graph_of, variable_of}
use Rattle.var_slicing.specs.Inner.Leading.{leaders_of, leader_pairs}
use Rattle.var_slicing.specs.Inner.Linking.{no_lists, lists_of_pairs}
use Rattle.var_slicing.specs.Inner.Needing.{collected_of}
use Rattle.var_slicing.proofs.NeedsCollected.{needed-marked}
use Rattle.var_slicing.proofs.marking.needed.Goals as goal

pub returns : goal.returns
returns c =
    let n = collected_of c.in_ok-needs.needs in
    let count = c.len-count.result in
    IfOk-weaker c.marked_with_faults.result _ _
    (λ marks found. found
    ∙ needed-marked (graph_of c.args.model.now) n c.add_stream_pairs.new.pairs.items c.in_ok-next.next.lists.items count
    c.in_ok-needs.ensures (c.len-count.ensures ∙ sym (length-map c.args.model.now.vars variable_of))
    (c.in_ok-add_stream_pairs.ensures ∙ ap (λ (draws : List (ℕ × ℕ)). n.pairs ++ flat_map (leader_pairs (leaders_of count draws)) draws) c.as_slice.ensures.value)
    (c.in_ok-next.ensures ∙ ap (λ (pairs : List (ℕ × ℕ)). lists_of_pairs pairs (no_lists count)) c.as_slice-2.ensures.value))
    c.marked_with_faults.ensures
