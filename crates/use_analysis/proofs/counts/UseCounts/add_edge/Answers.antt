-- What the edge reads goes up by one.
use Rattle.std.proofs.Common.{◌≡◌, ◌∙◌, ap, subst, sym}
use Rattle.model_core.specs.Rules.Uses.{edge_reads}
use Rattle.model_core.specs.Code.Views.{edge_of}
use Rattle.use_analysis.specs.UseNumbers.{UseNumbers, raised_at, CanRaise}
use Rattle.use_analysis.specs.Inner.Moving.{numbers_of}
use Rattle.use_analysis.proofs.MovedNumbers.{numbers_raised, both_lists}
use Rattle.use_analysis.proofs.counts.UseCounts.add_edge.Goals as goal

pub returns : goal.returns
returns c =
    let vs = edge_reads (edge_of c.args.edge.now) in
    let seen : numbers_of c.self.inside.numbers.readers.items ≡ c.args.self.now.readers = ap (λ (u : UseNumbers). u.readers) c.self.view_is in
    both_lists _ _ _ _
    (c.move_edge.ensures.readers ∙ numbers_raised vs _ (subst (CanRaise vs) (sym seen) c.requires) ∙ ap (raised_at vs) seen)
    (c.move_edge.ensures.setters ∙ ap (λ (u : UseNumbers). u.setters) c.self.view_is)
