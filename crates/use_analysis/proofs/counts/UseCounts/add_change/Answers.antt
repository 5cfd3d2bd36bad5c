-- What the change reads and what it sets goes up by one.
use Rattle.std.proofs.Common.{◌≡◌, ◌∙◌, ap, subst, sym}
use Rattle.model_core.specs.Rules.Uses.{change_reads, change_writes}
use Rattle.model_core.specs.Code.Views.{change_of}
use Rattle.use_analysis.specs.UseNumbers.{UseNumbers, raised_at, CanRaise}
use Rattle.use_analysis.specs.Inner.Moving.{numbers_of}
use Rattle.use_analysis.proofs.MovedNumbers.{numbers_raised, both_lists}
use Rattle.use_analysis.proofs.counts.UseCounts.add_change.Goals as goal

pub returns : goal.returns
returns c =
    let reads = change_reads (change_of c.args.change.now) in
    let writes = change_writes (change_of c.args.change.now) in
    let readers : numbers_of c.self.inside.numbers.readers.items ≡ c.args.self.now.readers = ap (λ (u : UseNumbers). u.readers) c.self.view_is in
    let setters : numbers_of c.self.inside.numbers.setters.items ≡ c.args.self.now.setters = ap (λ (u : UseNumbers). u.setters) c.self.view_is in
    both_lists _ _ _ _
    (c.move_change.ensures.readers ∙ numbers_raised reads _ (subst (CanRaise reads) (sym readers) c.requires.readers) ∙ ap (raised_at reads) readers)
    (c.move_change.ensures.setters ∙ numbers_raised writes _ (subst (CanRaise writes) (sym setters) c.requires.setters) ∙ ap (raised_at writes) setters)
