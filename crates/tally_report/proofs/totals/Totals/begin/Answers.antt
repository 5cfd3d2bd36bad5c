use Rattle.std.proofs.Common.{List, All, map, sym, subst, ap, ◌∙◌}
use Rattle.model_core.specs.Code.Views.{graph_of, watched_of}
use Rattle.tally_report.specs.declared.item.Item.{Item}
use Rattle.tally_report.specs.declared.sums.Sum.{Sum}
use Rattle.tally_report.specs.SmallAreas.{IsOfRuns}
use Rattle.tally_report.specs.Inner.Sums.{IsSmall}
use Rattle.tally_report.specs.Totalling.{RunTotals}
use Rattle.tally_report.specs.Inner.Sums.{held_until}
use Rattle.tally_report.proofs.FirstSums.{first_small}
use Rattle.tally_report.proofs.FirstTotals.{first_totals, of_no_run}
use Rattle.tally_report.proofs.totals.Totals.begin.Goals as goal

pub items_until-requires-clause-small : goal.items_until-requires-clause-small
items_until-requires-clause-small c =
    subst (λ (sums : List Sum). All (λ (s : Sum). IsSmall 0 s.item) sums) (sym (c.as_slice.ensures.value ∙ c.in_ok-sums.ensures))
    (first_small (graph_of c.args.model.now) 0 (map watched_of c.args.model.now.watch))

pub invariant_of-result : goal.invariant_of-result
invariant_of-result c =
    subst (λ (items : List Item). All (IsOfRuns 0) items)
    (sym (c.in_ok-items_until.ensures.held ∙ ap (map (λ (s : Sum). held_until 0 0 s.item)) (c.as_slice.ensures.value ∙ c.in_ok-sums.ensures) ∙ first_totals (graph_of c.args.model.now)))
    (of_no_run (graph_of c.args.model.now))

pub returns : goal.returns
returns c =
    ap (λ (items : List Item). let t : RunTotals = record { runs = 0; items = items } in t)
    (c.in_ok-items_until.ensures.held ∙ ap (map (λ (s : Sum). held_until 0 0 s.item)) (c.as_slice.ensures.value ∙ c.in_ok-sums.ensures) ∙ first_totals (graph_of c.args.model.now))
