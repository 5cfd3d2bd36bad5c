use Rattle.std.proofs.Common.{◌≡◌, map, drop}
use Rattle.std.specs.List.{flat_map}
use Rattle.model_core.specs.Rules.Uses.{variables_in}
use Rattle.model_core.specs.Code.Views.{expression_of}
use Rattle.use_analysis.specs.Inner.Moving.{moved_at}
use Rattle.use_analysis.proofs.moving.move_in_all.Given as goal

abbrev pub invariant-loop-expr : goal.invariant-loop-expr
invariant-loop-expr l =
    moved_at l.part (flat_map variables_in (map expression_of (drop l.expr-index l.exprs))) l.numbers
    ≡ moved_at l.part (flat_map variables_in (map expression_of l.exprs)) l.initial.numbers
