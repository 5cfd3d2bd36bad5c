use Rattle.std.proofs.Common.{◌≡◌, ℕ, List, map, ap, sym, subst}
use Rattle.model_core.specs.EventGraph.{EventGraph, EventVertex, Variable, WeightTable, Watched}
use Rattle.model_core.specs.Code.Views.{table_of}
use Rattle.model_core.specs.Static.Reading.{IsValid}
use Rattle.model_gen.specs.Generated.{generated}
use Rattle.model_gen.proofs.generating.generate.Goals as goal

-- a graph with the parts of a valid one
with_its_parts : (g : EventGraph) → IsValid g → (name : List ℕ) (variables : List Variable) (tables : List WeightTable) (watch : List Watched) (vertices : List EventVertex)
    → name ≡ g.name → variables ≡ g.variables → tables ≡ g.tables → watch ≡ g.watch → vertices ≡ g.vertices
    → IsValid (record { name = name; variables = variables; tables = tables; watch = watch; vertices = vertices })
with_its_parts g valid name variables tables watch vertices a b c d e =
    let same : record { name = name; variables = variables; tables = tables; watch = watch; vertices = vertices } ≡ g = λ i. record { name = a i; variables = b i; tables = c i; watch = d i; vertices = e i } in
    subst IsValid (sym same) valid

pub returns-clause-valid : goal.returns-clause-valid
returns-clause-valid c =
    with_its_parts (generated c.args.seed c.args.vertices) (c.generated_models_are_valid.ensures c.args.seed c.args.vertices c.requires.some c.requires.few_vertices) _ _ _ _ _
    c.in_ok-copied_name.ensures c.in_ok-variables.ensures (ap (map table_of) c.new.ensures) c.in_ok-watched_counters.ensures c.in_ok-vertices_by_words.ensures
