use Rattle.std.proofs.Common.{◌≡◌, ◌+◌, map, length, drop}
use Rattle.std.specs.Option.{option_map}
use Rattle.model_core.specs.Code.Views.{graph_of, application_of}
use Rattle.model_core.specs.Rules.Reduction.{first_bad}
use Rattle.model_core.specs.Rules.Verdict.{graph_reached}
use Rattle.model_facts.specs.FactsOfModel.{FactsAreRight}
use Rattle.model_facts.specs.NothingCounted.{NothingCounted}
use Rattle.model_read.specs.NamesPlaced.{HasPlaces, names_of_vertices}
use Rattle.reduction_cert.proofs.checking.apply_all.Given as goal

abbrev pub invariant-loop-place : goal.invariant-loop-place
invariant-loop-place l = record {
  listed : HasPlaces (names_of_vertices (graph_of l.model).vertices) l.vertices;
  facts : FactsAreRight (graph_of l.model) l.facts;
  counts : NothingCounted (length l.model.vars) l.counts;
  bad : first_bad (graph_of l.initial.model) (map application_of l.applications) ≡ option_map (λ k. k + l.place) (first_bad (graph_of l.model) (map application_of (drop l.place l.applications)));
  reached : graph_reached (graph_of l.initial.model) (map application_of l.applications) ≡ graph_reached (graph_of l.model) (map application_of (drop l.place l.applications));
}
