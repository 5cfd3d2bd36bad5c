-- Each vertex counts as changed, and no place is passed over.
use Rattle.std.proofs.Common.{true}
use Rattle.std.specs.Prelude.{replicate}
use Rattle.sig_base.specs.declared.limits.TheConstants.{VERTICES_MAX}
use Rattle.twin_rules.proofs.SkippedPlaces.{all-changed, none-skipped}
use Rattle.twin_rules.proofs.pair_search.PairSearch.none.Goals as goal

pub returns-clause-changed : goal.returns-clause-changed
returns-clause-changed c = λ k. all-changed VERTICES_MAX k

pub returns-clause-skips : goal.returns-clause-skips
returns-clause-skips c = λ v k at_least less. none-skipped (replicate VERTICES_MAX true) VERTICES_MAX v k at_least less
