-- Applications of rules and chains of them: what they give, and that they keep a model valid and its meaning.
use Rattle.std.proofs.Common.{◌≡◌, ◌↔◌, ℕ, suc, Bool, List, [], ◌∷◌, Option, Some, None, refl, ◌∙◌, ap, subst}
use Rattle.std.specs.Option.{option_map, option_map_or}
use Rattle.model_core.specs.EventGraph.{EventGraph}
use Rattle.model_core.specs.Run.Same.{Same}
use Rattle.model_core.specs.Static.Reading.{IsValid}
use Rattle.model_core.specs.Rules.Conditions.{first_failed}
use Rattle.model_core.specs.Rules.Prune.{prune_conditions, pruned}
use Rattle.model_core.specs.Rules.Settle.{settle_conditions, settled}
use Rattle.model_core.specs.Rules.Drop.{drop_conditions, dropped}
use Rattle.model_core.specs.Rules.Merge.{merge_conditions, merged}
use Rattle.model_core.specs.Rules.Slice.{slice_conditions, sliced}
use Rattle.model_core.specs.Rules.Reduction.{RuleApplication, Prune, Settle, Drop, Merge, Slice, edge_named, vertices_named, two_vertices_named, variables_named, failed_condition, result_of, unless_failed, applied, Chain, first_bad}
use Rattle.run_laws.proofs.SameLaws.{same_refl, same_trans}

-- ---- one application

unless_failed-Some : (o : Option ℕ) (g h : EventGraph) → unless_failed o g ≡ Some h → (o ≡ None) × (g ≡ h)
unless_failed-Some None g h e = (refl, cc)
unless_failed-Some (Some condition) g h e = cc

pub applied-is : (g h : EventGraph) (a : RuleApplication) → (applied g a ≡ Some h) ↔ ((failed_condition g a ≡ None) × (result_of g a ≡ h))
applied-is g h a = (unless_failed-Some (failed_condition g a) (result_of g a) h, λ (none, is). ap (λ o. unless_failed o (result_of g a)) none ∙ ap (λ g. Some g) is)

-- ---- chains

-- one application and others, where they are given
chain-from : (g : EventGraph) (a : RuleApplication) (later : List RuleApplication) (o : Option EventGraph) → applied g a ≡ o → ((next : EventGraph) → (first_bad next later ≡ None) → (h : EventGraph) × Chain next later h) → option_map_or (λ next. option_map suc (first_bad next later)) o (Some 1) ≡ None → (h : EventGraph) × Chain g (a ∷ later) h
chain-from g a later None made go e = cc
chain-from g a later (Some next) made go e =
    let (h, chain) = go next (no_number (first_bad next later) e) in (h, (next, made, chain)) where
      no_number : (o : Option ℕ) → option_map suc o ≡ None → o ≡ None
      no_number None e = refl
      no_number (Some n) e = cc

chain-is : (g : EventGraph) (applications : List RuleApplication) → first_bad g applications ≡ None → (h : EventGraph) × Chain g applications h
chain-is g [] e = (g, refl)
chain-is g (a ∷ later) e = chain-from g a later (applied g a) refl (λ next. chain-is next later) e

no_bad : (g : EventGraph) (applications : List RuleApplication) (h : EventGraph) → Chain g applications h → first_bad g applications ≡ None
no_bad g [] h e = refl
no_bad g (a ∷ later) h (next, made, others) =
    ap (λ o. option_map_or (λ next. option_map suc (first_bad next later)) o (Some 1)) made ∙ ap (option_map suc) (no_bad next later h others)

pub first_bad-None : (g : EventGraph) (applications : List RuleApplication) → (first_bad g applications ≡ None) ↔ ((h : EventGraph) × Chain g applications h)
first_bad-None g applications = (chain-is g applications, λ (h, chain). no_bad g applications h chain)

-- ---- what is kept

-- the second is valid and means what the first means
pub record Keeps (g h : EventGraph) : Type 0 where
  pub valid : IsValid h
  pub same : Same g h

-- the law of a rule: where its conditions hold on a valid model, it gives what is valid and the same
pub record RuleLaw (P : Type 0) (conditions : EventGraph → P → List Bool) (result : EventGraph → P → EventGraph) : Type 0 where
  pub valid : (g : EventGraph) (p : P) → IsValid g → first_failed (conditions g p) ≡ None → IsValid (result g p)
  pub same : (g : EventGraph) (p : P) → IsValid g → first_failed (conditions g p) ≡ None → Same g (result g p)

-- the laws of all rules
pub record Laws : Type 0 where
  pub prune : RuleLaw (ℕ × ℕ) (λ g (vertex, edge). prune_conditions g vertex edge) (λ g (vertex, edge). pruned g vertex edge)
  pub settle : RuleLaw (ℕ × ℕ) (λ g (vertex, edge). settle_conditions g vertex edge) (λ g (vertex, edge). settled g vertex edge)
  pub drop : RuleLaw (List ℕ) drop_conditions dropped
  pub merge : RuleLaw (ℕ × ℕ) (λ g (first, second). merge_conditions g first second) (λ g (first, second). merged g first second)
  pub slice : RuleLaw (List ℕ) slice_conditions sliced

-- what is named by an application is there, and the rule's law says the rest
named-keeps : {P : Type 0} (conditions : EventGraph → P → List Bool) (result : EventGraph → P → EventGraph) → RuleLaw P conditions result → (g h : EventGraph) → IsValid g → (missing : ℕ) (o : Option P) → option_map_or (λ p. first_failed (conditions g p)) o (Some missing) ≡ None → option_map_or (λ p. result g p) o g ≡ h → Keeps g h
named-keeps conditions result law g h valid missing None none is = cc
named-keeps conditions result law g h valid missing (Some p) none is = subst (Keeps g) is (record { valid = law.valid g p valid none; same = law.same g p valid none })

pub applied-keeps : Laws → (g h : EventGraph) (a : RuleApplication) → IsValid g → applied g a ≡ Some h → Keeps g h
applied-keeps laws g h (Prune name number) valid made =
    let (none, is) = unless_failed-Some (failed_condition g (Prune name number)) (result_of g (Prune name number)) h made in
    named-keeps (λ g (vertex, edge). prune_conditions g vertex edge) (λ g (vertex, edge). pruned g vertex edge) laws.prune g h valid 1 (edge_named g name number) none is
applied-keeps laws g h (Settle name number) valid made =
    let (none, is) = unless_failed-Some (failed_condition g (Settle name number)) (result_of g (Settle name number)) h made in
    named-keeps (λ g (vertex, edge). settle_conditions g vertex edge) (λ g (vertex, edge). settled g vertex edge) laws.settle g h valid 1 (edge_named g name number) none is
applied-keeps laws g h (Drop names) valid made =
    let (none, is) = unless_failed-Some (failed_condition g (Drop names)) (result_of g (Drop names)) h made in
    named-keeps drop_conditions dropped laws.drop g h valid 2 (vertices_named g names) none is
applied-keeps laws g h (Merge name target) valid made =
    let (none, is) = unless_failed-Some (failed_condition g (Merge name target)) (result_of g (Merge name target)) h made in
    named-keeps (λ g (first, second). merge_conditions g first second) (λ g (first, second). merged g first second) laws.merge g h valid 1 (two_vertices_named g name target) none is
applied-keeps laws g h (Slice names) valid made =
    let (none, is) = unless_failed-Some (failed_condition g (Slice names)) (result_of g (Slice names)) h made in
    named-keeps slice_conditions sliced laws.slice g h valid 2 (variables_named g names) none is

pub chain-keeps : Laws → (g : EventGraph) (applications : List RuleApplication) (h : EventGraph) → IsValid g → Chain g applications h → Keeps g h
chain-keeps laws g [] h valid e = subst (Keeps g) e (record { valid = valid; same = same_refl g })
chain-keeps laws g (a ∷ later) h valid (next, made, others) =
    let first = applied-keeps laws g next a valid made in
    let rest = chain-keeps laws next later h first.valid others in
    record { valid = rest.valid; same = same_trans g next h first.same rest.same }
