use Rattle.std.proofs.lemmas.Result.{IfOk-weaker}
use Rattle.one_pass.proofs.text.after_declarations.Goals as goal

pub returns-clause-ok : goal.returns-clause-ok
returns-clause-ok c = IfOk-weaker c.among_names.result _ _ (λ model read. read c.in_ok-names.ensures.means c.args.fault.now c.in_ok-names.ensures.earliest) c.among_names.ensures.ok
