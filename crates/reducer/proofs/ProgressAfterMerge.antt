-- What is known of a model after a merge, and after the drop that follows it.
use Rattle.std.proofs.Common.{◌≡◌, ℕ, Bool, true, false, not, [], ◌∷◌, length, refl, sym, subst}
use Rattle.model_core.specs.EventGraph.{EventGraph, EventVertex}
use Rattle.model_core.specs.Text.Canonical.{vertex_name}
use Rattle.model_core.specs.Rules.Reached.{unreached}
use Rattle.model_core.proofs.PlacesChanged.{shown_placed}
use Rattle.use_analysis.specs.UseNumbers.{UseNumbers}
use Rattle.model_facts.specs.FactsOfModel.{FactsAreRight}
use Rattle.merge_rules.specs.Hollowed.{hollow, hollowed}
use Rattle.model_facts.specs.NothingCounted.{NothingCounted}
use Rattle.model_facts.specs.declared.facts.FactsOfModel.{FactsOfModel}
use Rattle.model_facts.specs.Progress.{IsProgress}
use Rattle.model_facts.specs.declared.progress.Progress.{Progress}
use Rattle.merge_rules.specs.KeptPairs.{has_incoming}
use Rattle.reducer.specs.Inner.Merging.{ReachedIsRight}

-- where no edge leads to a vertex it alone can't be reached, and else all can be
pub reached-right : (g : EventGraph) (k : ℕ) (led : Bool) → led ≡ has_incoming g k → (led ≡ true → unreached g ≡ []) → (led ≡ false → unreached g ≡ k ∷ []) → ReachedIsRight g k (not led)
reached-right g k true is if_led if_unled = if_led refl
reached-right g k false is if_led if_unled = record { alone = if_unled refl; unled = sym is }

-- a vertex that has given away what it does has its name
pub hollow_named : (g : EventGraph) (place k : ℕ) → vertex_name (hollowed g place) k ≡ vertex_name g k
hollow_named g place k = sym (shown_placed (λ (v : EventVertex). v.name) hollow [] (λ v. refl) place g.vertices k)

-- what is known of a graph, all of whose vertices can be reached
pub progress-right : (g h : EventGraph) (facts : FactsOfModel) (counts : UseNumbers)
    → FactsAreRight g facts → NothingCounted (length g.variables) counts → unreached g ≡ [] → h ≡ g
    → (let p : Progress = record { facts = facts; counts = counts; all_reached = true } in IsProgress h p)
progress-right g h facts counts are_facts none all is = record {
  facts = subst (λ (h : EventGraph). FactsAreRight h facts) (sym is) are_facts;
  counts = subst (λ (h : EventGraph). NothingCounted (length h.variables) counts) (sym is) none;
  reached = λ any. subst (λ (h : EventGraph). unreached h ≡ []) (sym is) all;
}
