use Rattle.std.proofs.Common.{List, All, ◌+◌, sym, ◌∙◌, ap, subst}
use Rattle.tally_report.specs.declared.item.Item.{Item}
use Rattle.tally_report.specs.SmallAreas.{IsOfRuns}
use Rattle.tally_report.specs.Totalling.{items_added}
use Rattle.tally_report.proofs.AddedItems.{all-added}
use Rattle.tally_report.proofs.totals.Totals.add.Goals as goal

pub invariant_of-self : goal.invariant_of-self
invariant_of-self c =
    subst (λ (items : List Item). All (IsOfRuns (c.self.inside.runs + 1)) items)
    (sym (c.add_items.ensures ∙ ap (items_added c.self.inside.items.items) c.as_slice.ensures))
    (all-added c.self.inside.runs c.self.inside.items.items c.args.run.now.items c.self.invariant c.requires.small)
