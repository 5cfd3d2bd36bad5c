-- The cast keeps the number.
use Rattle.std.proofs.Common.{◌∙◌, sym, ap, ℤ, w64, to_z, of_z}
use Rattle.std.proofs.lemmas.Int.{to_z-of_z}
use Rattle.range_bounds.proofs.Unmoved.{in_bits, nearest_is}
use Rattle.range_bounds.proofs.range_ends.number_itself.Goals as goal

pub returns : goal.returns
returns c =
    let x = c.args.x in
    ap (λ (y : ℤ). to_z w64 (of_z w64 y)) (to_z-of_z _ x c.ranges.x)
    ∙ (to_z-of_z w64 x (in_bits x c.requires) ∙ sym (nearest_is x c.requires))
