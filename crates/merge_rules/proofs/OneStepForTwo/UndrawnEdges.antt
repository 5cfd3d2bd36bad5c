-- Edges that draw no delay keep the words that were taken, and do the same whatever words those are.
use Rattle.std.proofs.Common.{◌≡◌, ℕ, List, [], Ok, sym, ◌∙◌, ap, subst}
use Rattle.std.specs.List.{AllByRecursion}
use Rattle.model_core.specs.EventGraph.{EventGraph, EventEdge}
use Rattle.model_core.specs.Run.State.{State}
use Rattle.model_core.specs.Run.Value.{in_turn}
use Rattle.model_core.specs.Run.Edges.{EdgeState, treat_edge}
use Rattle.model_core.specs.Rules.Uses.{edge_streams}
use Rattle.run_laws.proofs.Spared.InTurn.{result_by, in_turn-after}
use Rattle.run_laws.proofs.Spared.WordsApart.{WordsApart, words_changed, treat_edge-apart}

-- the edge draws no delay
abbrev pub Undrawn : EventEdge → Type 0
Undrawn e = edge_streams e ≡ []

module _ (g : EventGraph) (seed : ℕ) (s : State) (clk : ℕ) (es : List EventEdge) (undrawn : AllByRecursion Undrawn es) (p q : EdgeState) (done : in_turn (treat_edge g seed s clk) es p ≡ Ok q) where
  -- with other words, which they keep
  pub edges-undrawn : (taken : List ℕ) → in_turn (treat_edge g seed s clk) es (record p { taken = taken }) ≡ Ok (record q { taken = taken })
  edges-undrawn taken =
      let u : List ℕ → List ℕ = λ words. taken in
      in_turn-after Undrawn (treat_edge g seed s clk) (words_changed u) (λ e none p. treat_edge-apart g seed s clk u e (subst (AllByRecursion (WordsApart u)) (sym none) tt) p) es undrawn p ∙
      ap (result_by (words_changed u)) done

  -- and so with those that were taken
  pub words-kept : p.taken ≡ q.taken
  words-kept = let same : q ≡ record q { taken = p.taken } = (let both : Ok q ≡ Ok (record q { taken = p.taken }) = sym done ∙ edges-undrawn p.taken in cc) in sym (ap (λ (q : EdgeState). q.taken) same)
