-- All numbers are 0.
use Rattle.std.proofs.Common.{◌∙◌, ap, replicate, ℕ}
use Rattle.use_analysis.specs.Inner.Moving.{numbers_of}
use Rattle.use_analysis.proofs.MovedNumbers.{nothing_numbered, both_lists}
use Rattle.use_analysis.proofs.counts.UseCounts.begin.Goals as goal

pub returns : goal.returns
returns c =
    both_lists _ _ _ _
    (ap numbers_of c.in_ok-readers.ensures ∙ nothing_numbered c.len-count.result ∙ ap (λ (n : ℕ). replicate n 0) c.len-count.ensures)
    (ap numbers_of c.in_ok-setters.ensures ∙ nothing_numbered c.len-count.result ∙ ap (λ (n : ℕ). replicate n 0) c.len-count.ensures)
