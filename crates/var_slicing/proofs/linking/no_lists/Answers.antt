-- One place more.
use Rattle.std.proofs.Common.{◌∙◌, ap₂, sym, ◌++◌, ◌∷◌, [], List, ℕ, arith}
use Rattle.std.proofs.lemmas.List.FromFn.{map-range_with_len_more}
use Rattle.var_slicing.proofs.linking.no_lists.Goals as goal

pub loop-place-preserved : goal.loop-place-preserved
loop-place-preserved c =
    let none : ℕ → List ℕ = λ k. [] in
    c.in_ok-push.ensures.items
    ∙ ap₂ (λ (next : List (List ℕ)) (ks : List ℕ). next ++ ks ∷ []) c.loop-place.invariant c.new.ensures
    ∙ sym (map-range_with_len_more none 0 c.loop-place._place c.loop-place._place (omega arith))
