use Rattle.std.proofs.Common.{◌≡◌, drop}
use Rattle.std.specs.List.{list_any}
use Rattle.use_analysis.proofs.writing.one_passes.Given as goal

abbrev pub invariant-loop-var : goal.invariant-loop-var
invariant-loop-var g l =
    list_any (g.T.NumberTest.test l.test) (drop l.var-index l.vars)
    ≡ list_any (g.T.NumberTest.test l.test) l.vars
