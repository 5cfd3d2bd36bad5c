-- The static rules of the model say so of each of its vertices.
use Rattle.std.proofs.Common.{List, ℕ, ◌≤◌, [], ◌∷◌, length}
use Rattle.std.specs.List.{AllByRecursion}
use Rattle.sig_base.specs.declared.limits.TheConstants.{PARAMETERS_MAX}
use Rattle.model_core.specs.EventGraph.{EventVertex, Variable}
use Rattle.model_core.specs.Static.OwnRules.{KeepsVertex, parameters_of}
use Rattle.model_core.specs.Code.Views.{graph_of}
use Rattle.run_tests.proofs.saved_runs.saved_model.Goals as goal

parameters_fit : (variables : List Variable) (tables : ℕ) (takes : List (List ℕ)) (vertices : List EventVertex) → AllByRecursion (KeepsVertex variables tables takes) vertices → AllByRecursion (λ (v : EventVertex). length v.parameters ≤ PARAMETERS_MAX) vertices
parameters_fit variables tables takes [] all = tt
parameters_fit variables tables takes (v ∷ vertices) all = (all.0.few_parameters, parameters_fit variables tables takes vertices all.1)

pub returns : goal.returns
returns c =
    let g = graph_of c.in_ok-model.model in
    parameters_fit g.variables (length g.tables) (parameters_of g) g.vertices c.in_ok-model.ensures.kept.parts.vertices
