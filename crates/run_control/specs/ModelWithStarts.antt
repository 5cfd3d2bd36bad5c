-- A model with the starting values of a run of it.
use Rattle.std.specs.Prelude.{ℤ, List}
use Rattle.model_core.specs.declared.model.Model.{Model}

pub record ModelWithStarts : Type 0 where
  pub model : Model
  pub values : List ℤ
