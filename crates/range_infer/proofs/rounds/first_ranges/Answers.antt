use Rattle.std.proofs.Common.{◌≡◌, ℕ, ◌∙◌, length, map, sym, ap, arith}
use Rattle.std.specs.List.{range_with_len}
use Rattle.std.proofs.lemmas.List.{length-map}
use Rattle.model_core.specs.Code.Views.{graph_of, variable_of}
use Rattle.model_core.specs.Ranges.Inference.{first_range}
use Rattle.range_infer.proofs.Numbered.{numbered-more}
use Rattle.range_infer.proofs.rounds.first_ranges.Goals as goal

pub loop-place-preserved : goal.loop-place-preserved
loop-place-preserved c =
    numbered-more (first_range (graph_of c.args.model.now)) c.loop-place.place c.loop-place.ranges.items c.push.new.self.items c.first_range.result c.loop-place.invariant c.first_range.ensures c.in_ok-push.ensures.items

pub returns : goal.returns
returns c =
    let vars = c.args.model.now.vars in
    let at : c.loop-place.place ≡ length vars = omega (arith, c.loop-place-test.false, c.loop-place.auto.place-end, c.len-place-end.ensures) in
    c.loop-place.invariant ∙ ap (λ (n : ℕ). map (first_range (graph_of c.args.model.now)) (range_with_len 0 n)) (at ∙ sym (length-map vars variable_of))
