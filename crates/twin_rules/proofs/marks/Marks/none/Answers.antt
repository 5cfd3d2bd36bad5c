-- No place within the limit has a mark.
use Rattle.std.proofs.lemmas.List.{get_or-replicate}
use Rattle.std.proofs.Common.{true, false}
use Rattle.sig_base.specs.declared.limits.TheConstants.{VERTICES_MAX}
use Rattle.twin_rules.proofs.marks.Marks.none.Goals as goal

pub returns : goal.returns
returns c = λ x below. get_or-replicate VERTICES_MAX x false true below
