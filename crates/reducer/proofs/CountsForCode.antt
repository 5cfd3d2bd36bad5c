-- Counts in which nothing is counted serve for the code's model as for its graph.
use Rattle.std.proofs.Common.{length, subst}
use Rattle.std.proofs.lemmas.List.{length-map}
use Rattle.model_core.specs.declared.model.Model.{Model}
use Rattle.model_core.specs.Code.Views.{graph_of, variable_of}
use Rattle.use_analysis.specs.UseNumbers.{UseNumbers}
use Rattle.model_facts.specs.NothingCounted.{NothingCounted}

pub counts_for_code : (m : Model) (u : UseNumbers) → NothingCounted (length (graph_of m).variables) u → NothingCounted (length m.vars) u
counts_for_code m u none = subst (λ n. NothingCounted n u) (length-map m.vars variable_of) none
