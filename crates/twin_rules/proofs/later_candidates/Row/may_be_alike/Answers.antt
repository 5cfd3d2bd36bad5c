-- Vertices that are alike fit.
use Rattle.std.proofs.Common.{◌≡◌, ◌∙◌, sym, false}
use Rattle.std.proofs.lemmas.Bool.{false≢true}
use Rattle.twin_rules.specs.Inner.ComparedPairs.{some_leads}
use Rattle.twin_rules.proofs.UnlikeFingerprints.{unlike_fingerprints}
use Rattle.twin_rules.proofs.later_candidates.Row.may_be_alike.Goals.{then-self, else-self}
use Rattle.twin_rules.proofs.later_candidates.Row.may_be_alike.Goals as goal

pub returns-after-self : goal.returns-after-self
returns-after-self c = λ g keep prints row unfit.
    let none : c.if-self.fingerprints_agree ≡ false → (some_leads g keep keep ≡ false) × (some_leads g keep c.args.gone ≡ false) =
    elim c.if-self.branch [
      | then-self w ↦ λ e. absurd (false≢true (sym e ∙ (w.fingerprints_agree-is ∙ w.if-self.true)))
      | else-self w ↦ λ e. (row.loops w.if-self.false, row.leads c.args.gone (sym w.has.ensures ∙ (sym w.fingerprints_agree-is ∙ e)))
    ] in
    unlike_fingerprints g keep c.args.gone c.args.prints.now prints c.in-Some-Some.own c.in-Some-Some.other (sym row.print ∙ c.in-Some-Some.is-0) (sym c.at.ensures ∙ c.in-Some-Some.is-1) c.if-self.fingerprints_agree none (sym c.fingerprints_agree.ensures ∙ unfit)
