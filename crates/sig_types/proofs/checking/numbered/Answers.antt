use Rattle.std.proofs.Common.{◌∙◌}
use Rattle.std.proofs.lemmas.Result.{IfOk-weaker}
use Rattle.sig_types.proofs.checking.numbered.Goals as goal

pub returns : goal.returns
returns c =
    let known = c.in_ok-known.ensures in
    IfOk-weaker c.numbered_among.result _ _ (λ model checked. checked known.means (c.as_slice.ensures ∙ known.takes) c.args.fault.now known.earliest) c.numbered_among.ensures
