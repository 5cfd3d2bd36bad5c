use Rattle.std.proofs.Common.{◌≡◌, map, drop}
use Rattle.std.specs.List.{flat_map}
use Rattle.model_core.specs.Rules.MarkedPlaces.{is_among}
use Rattle.model_core.specs.Rules.Uses.{variables_in}
use Rattle.model_core.specs.Code.Views.{expression_of}
use Rattle.use_analysis.proofs.reading.occurs_in_one.Given as goal

abbrev pub invariant-loop-expr : goal.invariant-loop-expr
invariant-loop-expr l = is_among (flat_map variables_in (map expression_of (drop l.expr-index l.exprs))) l.var ≡ is_among (flat_map variables_in (map expression_of l.exprs)) l.var
