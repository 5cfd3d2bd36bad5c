-- The words grow, and the others are joined to them.
use Rattle.std.proofs.Common.{◌++◌, drop, length, take, ◌∙◌, ap, arith}
use Rattle.std.proofs.Math.Seq.{take-append_seam}
use Rattle.conflict_report.proofs.BitsOfSets.{joined-into}
use Rattle.conflict_report.proofs.vertex_set.VertexSet.put_all.Goals as goal

pub returns : goal.returns
returns c =
    let words = c.join.new.words in
    let rest = drop (length words) c.self.inside.words.items in
    joined-into c.args.self.now c.grow.new.self c.as_mut_slice.result.now c.args.others.now c.as_slice.result.now words _
    (ap (λ n. take n (words ++ rest)) (omega (arith, c.as_mut_slice.ensures.len, c.join.auto.words)) ∙ take-append_seam words rest)
    c.in_ok-grow.ensures.same (c.as_mut_slice.ensures.value ∙ c.self.view_is) (c.as_slice.ensures.value ∙ c.others.view_is) c.join.ensures
