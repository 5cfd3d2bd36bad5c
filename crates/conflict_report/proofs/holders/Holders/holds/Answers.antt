-- The set of the number is asked, if there is one.
use Rattle.std.proofs.Common.{◌∙◌}
use Rattle.conflict_report.proofs.NumbersNoted.{held-in, not-held}
use Rattle.conflict_report.proofs.holders.Holders.holds.Goals as goal

pub returns-in-Some : goal.returns-in-Some
returns-in-Some c =
    let found = c.in-Some.ensures.lookup in
    c.has.ensures ∙ held-in c.deref.result.now c.args.self.now c.args.number c.in-Some.set.now (c.deref.ensures.value ∙ c.self.view_is) found.3.0 found.1 c.args.vertex

pub returns-in-None : goal.returns-in-None
returns-in-None c = not-held c.deref.result.now c.args.self.now c.args.number (c.deref.ensures.value ∙ c.self.view_is) c.in-None.ensures.lookup.3 c.args.vertex
