-- One test after the other.
use Rattle.std.proofs.Common.{sym, ◌∙◌, ◌<◌, subst}
use Rattle.model_core.specs.Code.Views.{graph_of}
use Rattle.twin_rules.proofs.AlikeByTests.{alike-by-tests}
use Rattle.twin_rules.proofs.FirstTwins.{length_of}
use Rattle.twin_rules.proofs.conditions.are_alike.Goals as goal

pub returns : goal.returns
returns c = c.do_the_same.ensures ∙ sym (alike-by-tests (graph_of c.args.model.now) c.args.keep c.args.gone (subst (λ n. c.args.gone < n) (sym (length_of c.args.model.now)) c.requires.gone))
