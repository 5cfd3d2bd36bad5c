-- Vertices that are alike do the same.
use Rattle.std.proofs.Common.{sym, ◌∙◌, true}
use Rattle.std.proofs.lemmas.Bool.{false≢true}
use Rattle.twin_rules.proofs.UnlikeFingerprints.{unlike_fingerprints}
use Rattle.twin_rules.proofs.later_candidates.may_do_the_same.Goals as goal

pub returns-in-Some-Some : goal.returns-in-Some-Some
returns-in-Some-Some c = λ g prints unfit.
    unlike_fingerprints g c.args.keep c.args.gone c.args.prints.now prints c.in-Some-Some.own c.in-Some-Some.other (sym c.at.ensures ∙ c.in-Some-Some.is-0) (sym c.at-2.ensures ∙ c.in-Some-Some.is-1) true (λ e. absurd (false≢true (sym e))) (sym c.fingerprints_agree.ensures ∙ unfit)
