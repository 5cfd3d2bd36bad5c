-- A list of zeros has 0 at each place.
use Rattle.std.proofs.Common.{ℕ, sym, subst, arith}
use Rattle.std.proofs.lemmas.List.{length-replicate}
use Rattle.sig_base.proofs.Lists.{slice_index-zeros}
use Rattle.model_facts.specs.NothingCounted.{NothingCounted}
use Rattle.model_facts.proofs.counts_law.new_counts_count_nothing.Goals as goal

pub returns : goal.returns
returns c variables counts is =
    let long = length-replicate {A = ℕ} variables 0 in
    subst (NothingCounted variables) (sym is) (record { enough = omega (arith, long); none = slice_index-zeros variables })
