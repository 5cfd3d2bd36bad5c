-- One range more that grows.
use Rattle.std.proofs.Common.{List, length, pos, false, get_or, sym, ap, ◌∙◌}
use Rattle.std.specs.List.{fold}
use Rattle.std.proofs.lemmas.List.{length-set, take_all}
use Rattle.std.proofs.lemmas.List.Sums.{fold_more}
use Rattle.model_core.specs.Code.Views.{graph_of}
use Rattle.model_core.specs.declared.incoming.Incoming.{Incoming}
use Rattle.model_core.specs.declared.var_range.VarRange.{VarRange}
use Rattle.range_infer.specs.Inner.GrownBy.{grown_by}
use Rattle.range_infer.proofs.rounds.grown.Goals as goal

pub loop-taken-preserved : goal.loop-taken-preserved
loop-taken-preserved c =
    let g = graph_of c.args.model.now in
    let takes = c.args.takes.now in
    let i = c.loop-taken.taken-index in
    let d : Incoming = record { variable = 0; bounds = record { lo = pos 0; hi = pos 0; can_false = false; can_true = false; quiet = false } } in
    record {
      many = ap (length {A = VarRange}) c.grow.ensures ∙ length-set _ _ _ ∙ c.loop-taken.invariant.many;
      value = c.grow.ensures ∙ ap (λ (ranges : List VarRange). grown_by g ranges (get_or takes i d)) c.loop-taken.invariant.value ∙ sym (fold_more (grown_by g) c.args.ranges.now takes i d c.loop-taken-test.true);
    }

pub returns-clause-value : goal.returns-clause-value
returns-clause-value c =
    c.loop-taken.invariant.value ∙ ap (fold (grown_by (graph_of c.args.model.now)) c.args.ranges.now) (take_all c.loop-taken.taken-index c.args.takes.now c.loop-taken-test.false)
