use Rattle.std.proofs.Common.{List, All, map, sym, subst}
use Rattle.model_core.specs.Code.Views.{graph_of, watched_of}
use Rattle.tally_report.specs.declared.sums.Sum.{Sum}
use Rattle.tally_report.specs.Inner.Sums.{IsSmall}
use Rattle.tally_report.proofs.FirstSums.{first_small}
use Rattle.tally_report.proofs.tally_taker.TallyTaker.begin.Goals as goal

pub invariant_of-result : goal.invariant_of-result
invariant_of-result c =
    subst (λ (sums : List Sum). All (λ (s : Sum). IsSmall 0 s.item) sums) (sym c.in_ok-first_sums.ensures)
    (first_small (graph_of c.args.model.now) 0 (map watched_of c.args.model.now.watch))
