-- The set of the number is joined, if there is one.
use Rattle.std.proofs.Common.{◌||◌, sym, ap, ◌∙◌}
use Rattle.std.proofs.Math.Bool.{or-false}
use Rattle.std.proofs.lemmas.Result.{on_ok_weaker}
use Rattle.conflict_report.specs.Inner.NumberHolders.{has_vertex}
use Rattle.conflict_report.proofs.NumbersNoted.{held-in, not-held}
use Rattle.conflict_report.proofs.holders.Holders.add_holders.Goals as goal

pub returns-in-Some : goal.returns-in-Some
returns-in-Some c =
    let found = c.in-Some.ensures.lookup in
    on_ok_weaker c.put_all.result
    (λ joined j. joined j ∙ ap (λ b. has_vertex c.args.found.now j || b) (held-in c.deref.result.now c.args.self.now c.args.number c.in-Some.set.now (c.deref.ensures.value ∙ c.self.view_is) found.3.0 found.1 j))
    c.put_all.ensures

pub returns-in-None : goal.returns-in-None
returns-in-None c = λ j.
    sym (or-false (has_vertex c.args.found.now j)) ∙ ap (λ b. has_vertex c.args.found.now j || b) (not-held c.deref.result.now c.args.self.now c.args.number (c.deref.ensures.value ∙ c.self.view_is) c.in-None.ensures.lookup.3 j)
