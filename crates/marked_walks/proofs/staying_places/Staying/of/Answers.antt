-- One place more, and one more that stays where it is marked.
use Rattle.std.proofs.Common.{◌≡◌, ◌∙◌, ◌+◌, ◌++◌, ◌∷◌, [], ℕ, List, Bool, sym, ap, map, true, false, arith}
use Rattle.std.specs.List.{range_with_len}
use Rattle.std.proofs.lemmas.List.FromFn.{map-range_with_len_more}
use Rattle.model_core.specs.Rules.MarkedPlaces.{rank, is_marked}
use Rattle.mark_laws.proofs.Ranks.{rank-none, rank-counted}
use Rattle.marked_walks.proofs.staying_places.Staying.of.Goals as goal
use Rattle.marked_walks.proofs.staying_places.Staying.of.Goals.{then-is_marked, else-is_marked}

pub loop-place-init : goal.loop-place-init
loop-place-init c = record { counted = omega arith; numbers = c.new-numbers.ensures.items; count = sym (rank-none c.args.marks.items) }

pub loop-place-preserved : goal.loop-place-preserved
loop-place-preserved c =
    let marks = c.args.marks.items in
    let k = c.loop-place.place in
    let numbers : c.push.new.self.items ≡ map (rank marks) (range_with_len 0 (k + 1)) =
    c.in_ok-push.ensures.items ∙ ap (λ (ks : List ℕ). ks ++ c.loop-place.count ∷ []) c.loop-place.invariant.numbers ∙ ap (λ (n : ℕ). map (rank marks) (range_with_len 0 k) ++ n ∷ []) c.loop-place.invariant.count
    ∙ sym (map-range_with_len_more (rank marks) 0 k k (omega arith)) in
    let tested : c.is_marked.result ≡ is_marked marks k = c.is_marked.ensures ∙ ap (λ (ms : List Bool). is_marked ms k) c.as_slice.ensures.value in
    elim c.if-is_marked.branch [
      | then-is_marked w ↦ record { counted = omega (arith, w.count-is, c.loop-place.invariant.counted); numbers = numbers; count = w.count-is ∙ rank-counted marks k true c.loop-place.count (sym tested ∙ w.if-is_marked.true) c.loop-place.invariant.count }
      | else-is_marked w ↦ record { counted = omega (arith, w.count-is, c.loop-place.invariant.counted); numbers = numbers; count = w.count-is ∙ rank-counted marks k false c.loop-place.count (sym tested ∙ w.if-is_marked.false) c.loop-place.invariant.count }
    ]
