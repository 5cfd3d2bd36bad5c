use Rattle.model_gen.specs.Generated.{generated}
use Rattle.model_gen.proofs.ValidGenerated.{generated_keeps_rules, generated_is_written}
use Rattle.model_gen.proofs.validity.generated_models_are_valid.Goals as goal

pub returns : goal.returns
returns c = λ seed vertices some few. (c.validity_is_by_parts.ensures.by_parts (generated seed vertices)).1 (generated_keeps_rules seed vertices some few, generated_is_written seed vertices some few)
