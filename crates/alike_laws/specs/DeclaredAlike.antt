-- What two models have to declare alike before their runs are compared: what is watched, and the first vertex's parameters.
use Rattle.std.specs.Prelude.{◌≡◌, ℕ, List, map}
use Rattle.model_core.specs.declared.model.Kind.{Kind}
use Rattle.model_core.specs.EventGraph.{EventGraph, watched_variables}
use Rattle.model_core.specs.Run.State.{variable_at}
use Rattle.model_core.specs.Run.Step.{vertex_at}
use Rattle.model_core.specs.Run.Same.{watched_name_of, first_parameters}

-- the kind and the size of a variable, which decide how its value is shown
pub record Shape : Type 0 where
  pub kind : Kind
  pub size : ℕ

abbrev pub shape_at : EventGraph → ℕ → Shape
shape_at g v = record { kind = (variable_at g v).kind; size = (variable_at g v).size }

-- the shapes of the watched variables
abbrev pub watched_shapes : EventGraph → List Shape
watched_shapes g = map (shape_at g) (watched_variables g.watch)

-- the kinds of the first vertex's parameters
abbrev pub first_kinds : EventGraph → List Kind
first_kinds g = map (λ v. (variable_at g v).kind) (vertex_at g 0).parameters

pub record DeclaredAlike (g h : EventGraph) : Type 0 where
  -- the watch lists name the same things in the same order
  pub watched : map (watched_name_of g) g.watch ≡ map (watched_name_of h) h.watch
  -- each watched variable has one kind and one size in both
  pub shapes : watched_shapes g ≡ watched_shapes h
  -- the first vertices have the same parameters, by name and range
  pub started : first_parameters g ≡ first_parameters h
  -- and by kind
  pub kinds : first_kinds g ≡ first_kinds h
