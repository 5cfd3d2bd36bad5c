-- One row more, and all of them.
use Rattle.std.proofs.Common.{◌≡◌, ℕ, ◌++◌, length, ap, ◌∙◌, arith}
use Rattle.std.specs.List.{range_with_len, flat_map}
use Rattle.model_core.specs.Rules.Uses.{uses_of}
use Rattle.model_core.specs.Code.Views.{graph_of}
use Rattle.use_analysis.specs.UseRows.{uses_row}
use Rattle.use_analysis.specs.UsesText.{uses_line}
use Rattle.model_core.proofs.NumbersInTurn.{as-many, seen-at, one_number_more}
use Rattle.use_analysis.proofs.use_lines.put_rows.Goals as goal

pub loop-var-preserved : goal.loop-var-preserved
loop-var-preserved c =
    let g = graph_of c.args.model.now in
    one_number_more (λ (v : ℕ). uses_line g v (uses_of g v)) c.args.out.now.items c.loop-var.out.items _ c.loop-var.var
    (c.in_ok-put_uses_line.ensures ∙ ap (λ u. c.loop-var.out.items ++ uses_line g c.loop-var.var u) (seen-at uses_row (uses_of g) c.args.rows.now (length g.variables) c.loop-var.var c.index-rows-var.result c.requires c.loop-var-test.true c.index-rows-var.is))
    c.loop-var.invariant

pub returns : goal.returns
returns c =
    let g = graph_of c.args.model.now in
    let long = as-many uses_row (uses_of g) c.args.rows.now (length g.variables) c.requires in
    let all : c.loop-var.var ≡ length g.variables = omega (arith, long) in
    c.loop-var.invariant ∙ ap (λ n. c.args.out.now.items ++ flat_map (λ (v : ℕ). uses_line g v (uses_of g v)) (range_with_len 0 n)) all
