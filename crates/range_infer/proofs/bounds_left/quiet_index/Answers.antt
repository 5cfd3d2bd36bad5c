-- Its size is the declared one.
use Rattle.std.proofs.Common.{◌∙◌, sym, ap, ℕ, pos, int_le, int_lt, ◌&&◌}
use Rattle.model_core.specs.Code.Views.{graph_of}
use Rattle.range_infer.proofs.ModelWithRanges.{same_but_range}
use Rattle.range_infer.proofs.bounds_left.quiet_index.Goals as goal

pub returns : goal.returns
returns c = λ ranges.
    c.lies_inside.ensures ∙ ap (λ (n : ℕ). c.args.index.now.quiet && int_le (pos 0) c.args.index.now.lo && int_lt c.args.index.now.hi (pos n)) (c.size_at.ensures ∙ sym (same_but_range (graph_of c.args.model.now).variables ranges c.args.var).size)
