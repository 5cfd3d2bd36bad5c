-- An application leaves no more variables than there were, so counts of uses that served before it serve after it.
use Rattle.std.proofs.Common.{◌≡◌, ◌≤◌, ℕ, length, Option, Some, None, sym, ap, subst, arith}
use Rattle.std.specs.Option.{option_map_or}
use Rattle.std.proofs.lemmas.List.{length-map}
use Rattle.model_core.specs.declared.model.Model.{Model}
use Rattle.model_core.specs.EventGraph.{EventGraph}
use Rattle.model_core.specs.Code.Views.{graph_of, variable_of}
use Rattle.model_core.specs.Rules.Prune.{pruned}
use Rattle.model_core.specs.Rules.Settle.{settled}
use Rattle.model_core.specs.Rules.Drop.{staying_marks, dropped}
use Rattle.model_core.specs.Rules.Merge.{merged}
use Rattle.model_core.specs.Rules.Slice.{sliced}
use Rattle.model_core.specs.Rules.Reduction.{RuleApplication, Prune, Settle, Drop, Merge, Slice, edge_named, vertices_named, two_vertices_named, variables_named, result_of, applied}
use Rattle.model_core.proofs.SomeOfAList.{some-few, some-marked_of}
use Rattle.use_analysis.specs.UseNumbers.{UseNumbers}
use Rattle.model_facts.specs.NothingCounted.{NothingCounted}
use Rattle.reduction_cert.proofs.Chains.{applied-is}

few_or : {P : Type 0} (g : EventGraph) (o : Option P) (result : P → EventGraph) → ((p : P) → length (result p).variables ≤ length g.variables) → length (option_map_or result o g).variables ≤ length g.variables
few_or g None result few = omega arith
few_or g (Some p) result few = few p

few_left : (g : EventGraph) (a : RuleApplication) → length (result_of g a).variables ≤ length g.variables
few_left g (Prune name number) = few_or g (edge_named g name number) (λ (vertex, edge). pruned g vertex edge) (λ (vertex, edge). omega arith)
few_left g (Settle name number) = few_or g (edge_named g name number) (λ (vertex, edge). settled g vertex edge) (λ (vertex, edge). omega arith)
few_left g (Drop names) = few_or g (vertices_named g names) (λ vertices. dropped g vertices) (λ vertices. omega arith)
few_left g (Merge name target) = few_or g (two_vertices_named g name target) (λ (first, second). merged g first second) (λ (first, second). omega arith)
few_left g (Slice names) = few_or g (variables_named g names) (λ vars. sliced g vars) (λ vars. some-few (some-marked_of (staying_marks vars (length g.variables)) g.variables))

pub fewer_variables : (g h : EventGraph) (a : RuleApplication) → applied g a ≡ Some h → length h.variables ≤ length g.variables
fewer_variables g h a made = let few = few_left g a in let same = ap (λ (k : EventGraph). length k.variables) ((applied-is g h a).0 made).1 in omega (arith, few, same)

pub fewer : {a b c : ℕ} → a ≡ b → a ≤ c → b ≤ c
fewer same few = omega (arith, same, few)

pub counts_serve : (m n : Model) (before now : UseNumbers) → length (graph_of n).variables ≤ length (graph_of m).variables → now ≡ before → NothingCounted (length m.vars) before → NothingCounted (length n.vars) now
counts_serve m n before now few same nothing =
    let old = length-map m.vars variable_of in
    let new = length-map n.vars variable_of in
    let enough = nothing.enough in
    let fewer : length n.vars ≤ length m.vars = omega (arith, few, old, new) in
    subst (NothingCounted (length n.vars)) (sym same) (record { enough = omega (arith, fewer, enough); none = nothing.none })
