use Rattle.model_core.specs.Code.Views.{variable_of}
use Rattle.model_gen.specs.Generated.{counter}
use Rattle.model_gen.proofs.MadeInTurn.{made_next}
use Rattle.model_gen.proofs.declared_parts.variables.Goals as goal

pub loop-number-preserved : goal.loop-number-preserved
loop-number-preserved c = made_next variable_of counter _ _ _ c.loop-number.number c.in_ok-push.ensures.items c.in_ok-counter.ensures c.loop-number.invariant
