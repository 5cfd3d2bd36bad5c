-- One list more.
use Rattle.std.proofs.Common.{◌∙◌, ap₂, sym, ◌++◌, ◌∷◌, [], List, ℕ, arith}
use Rattle.std.proofs.lemmas.List.FromFn.{map-range_with_len_more}
use Rattle.range_infer.specs.declared.readers.PartPlace.{PartPlace}
use Rattle.range_infer.proofs.readers.no_readers.Goals as goal

pub loop-place-preserved : goal.loop-place-preserved
loop-place-preserved c =
    let none : ℕ → List PartPlace = λ k. [] in
    c.in_ok-push.ensures.items
    ∙ ap₂ (λ (readers : List (List PartPlace)) (parts : List PartPlace). readers ++ parts ∷ []) c.loop-place.invariant c.new.ensures
    ∙ sym (map-range_with_len_more none 0 c.loop-place._place c.loop-place._place (omega arith))
