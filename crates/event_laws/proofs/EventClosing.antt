-- The sum of an event has the values, words and effects of its run.
use Rattle.std.proofs.Common.{◌≡◌, ℕ, zero, suc, ◌==◌, ℤ, pos, Bool, true, false, cond, List, [], ◌∷◌, map, Option, Some, Ok, Err, refl, sym, ap, ap₂, ◌∙◌, subst}
use Rattle.std.proofs.lemmas.Bool.{eqb-true}
use Rattle.sig_base.specs.declared.fault.FaultKind.{FaultKind}
use Rattle.model_core.specs.EventGraph.{EventGraph}
use Rattle.model_core.specs.Run.Value.{OrFault, is_one}
use Rattle.model_core.specs.Run.Changes.{one_more}
use Rattle.tree_laws.specs.SumValues.{Valuation}
use Rattle.tree_laws.specs.Limits.{◌>>=◌}
use Rattle.tree_laws.specs.SumEnds.{Ground, Known}
use Rattle.tree_laws.specs.Meaning.{Meets, Holds}
use Rattle.tree_laws.specs.Trees.{CaseTree, tree_value}
use Rattle.tree_laws.specs.TreesJoined.{renewed}
use Rattle.tree_laws.specs.Valued.{Noted, Stored, SoFar}
use Rattle.tree_laws.specs.ValuesAgree.{stored_value, Agrees}
use Rattle.tree_laws.proofs.Gives.{Gives, gives_some, then_gives, gives_weaker}
use Rattle.tree_laws.specs.ChecksHold.{Failed, FailedIn}
use Rattle.tree_laws.proofs.NotedChecks.{skip}
use Rattle.tree_laws.proofs.CasesOfTrees.{Has}
use Rattle.tree_laws.proofs.JoinedTrees.{renewed-value}
use Rattle.pair_laws.specs.Effects.{Done}
use Rattle.pair_laws.specs.EdgesNow.{effect_at}
use Rattle.pair_laws.specs.Exchanges.{EdgeEffect, effects_made, Tidied}
use Rattle.event_laws.specs.Making.{WordTaken}
use Rattle.event_laws.specs.EdgesMade.{EdgeTrees, edge_now}
use Rattle.event_laws.specs.EdgesTidied.{edges_tidied}
use Rattle.event_laws.specs.EventMade.{EventMade, FollowsEvent, FollowsDone}
use Rattle.event_laws.specs.EventClosed.{EventSum, stores_closed, values_closed, words_renewed, event_closed}
use Rattle.event_laws.specs.SumFollows.{SumFollows, FollowsSum}
use Rattle.event_laws.specs.WordsAre.{taken_after}
use Rattle.event_laws.proofs.EdgesJoined.{edges_tidied-is}
use Rattle.event_laws.proofs.StoresClosed.{SameCells, stores_closed-same}

module _ (v : Valuation) (base : Ground) (meets : Meets base v) (k : Known) (h : Holds v k) where
  words_renewed-taken : (taken : List ℕ) (ws : List WordTaken) → Gives (words_renewed base k ws) (λ rs. taken_after v taken rs ≡ taken_after v taken ws)
  unfolding words_renewed
  words_renewed-taken taken [] = gives_some _ _ refl
  words_renewed-taken taken (w ∷ older) =
      let Q : List WordTaken → Type 0 = λ rs. taken_after v taken rs ≡ taken_after v taken (w ∷ older) in
      then_gives (Has v (tree_value v w.guard)) Q (renewed base k w.guard) _ (renewed-value v base meets k h w.guard)
      (λ c same. then_gives (λ rs. taken_after v taken rs ≡ taken_after v taken older) Q (words_renewed base k older) _ (words_renewed-taken taken older)
      (λ rest others. gives_some Q _ (ap₂ (λ x t. cond (is_one x) (one_more t w.stream) t) same others)))

  -- the same values and cells
  pub record SameValues (a b : SoFar) : Type 0 where
    pub scalars : (i : ℕ) → tree_value v (b.scalar i) ≡ tree_value v (a.scalar i)
    pub cells : (i : ℕ) → SameCells v i (a.stores i) (b.stores i)

  module _ (less : CaseTree → CaseTree → Bool) where
    pub values_closed-same : (n : ℕ) (so_far : SoFar) → Gives (values_closed base k less n so_far) (SameValues so_far)
    unfolding values_closed
    values_closed-same zero so_far = gives_some _ _ (record { scalars = λ i. refl; cells = λ i x. refl })
    values_closed-same (suc n) so_far =
        let Q = SameValues so_far in
        then_gives (Has v (tree_value v (so_far.scalar n))) Q (renewed base k (so_far.scalar n)) _ (renewed-value v base meets k h (so_far.scalar n))
        (λ t same_t. then_gives (SameCells v n (so_far.stores n)) Q (stores_closed base k less n (so_far.stores n)) _ (stores_closed-same v base meets k h less n (so_far.stores n))
        (λ ss same_ss. then_gives (SameValues so_far) Q (values_closed base k less n so_far) _ (values_closed-same n so_far)
        (λ others same. gives_some Q _ (record {
          scalars = λ i. scalar i t same_t others same (n == i) refl;
          cells = λ i. stored i ss same_ss others same (n == i) refl;
        })))) where
          scalar : (i : ℕ) (t : CaseTree) → tree_value v t ≡ tree_value v (so_far.scalar n) → (others : SoFar) → SameValues so_far others → (b : Bool) → (n == i) ≡ b → tree_value v (cond b t (others.scalar i)) ≡ tree_value v (so_far.scalar i)
          scalar i t same_t others same true e = same_t ∙ ap (λ j. tree_value v (so_far.scalar j)) (eqb-true n i e)
          scalar i t same_t others same false e = same.scalars i

          stored : (i : ℕ) (ss : List Stored) → SameCells v n (so_far.stores n) ss → (others : SoFar) → SameValues so_far others → (b : Bool) → (n == i) ≡ b → SameCells v i (so_far.stores i) (cond b ss (others.stores i))
          stored i ss same_ss others same true e = subst (λ j. SameCells v j (so_far.stores j) ss) (eqb-true n i e) same_ss
          stored i ss same_ss others same false e = same.cells i

  same-agrees : (g : EventGraph) (d : Done) (clk : ℕ) (a b : SoFar) → Agrees v g d.state clk a → SameValues a b → Agrees v g d.state clk b
  same-agrees g d clk a b agrees same = record {
    clock = agrees.clock;
    scalars = λ i is. same.scalars i ∙ agrees.scalars i is;
    cells = λ i j below. same.cells i (pos j) ∙ agrees.cells i j below;
  }

pub closed-follows : (v : Valuation) (base : Ground) → Meets base v → (g : EventGraph) (clk : ℕ) (taken : List ℕ) (d : Done) (e : EventMade) → FollowsEvent v g clk taken d e
    → (index_less : CaseTree → CaseTree → Bool) (edge_less : EdgeTrees → EdgeTrees → Bool) (n : ℕ) → Gives (event_closed base index_less edge_less n e) (SumFollows v g clk taken d)
closed-follows v base meets g clk taken d e follows index_less edge_less n =
    let k = e.noted.known in
    let h = follows.fine.holds in
    let Q = SumFollows v g clk taken d in
    then_gives (SameValues v base meets k h e.values) Q (values_closed base k index_less n e.values) _ (values_closed-same v base meets k h index_less n e.values)
    (λ values same. then_gives (λ rs. taken_after v taken rs ≡ taken_after v taken e.words) Q (words_renewed base k e.words) _ (words_renewed-taken v base meets k h taken e.words)
    (λ words as_many. then_gives (λ rs. Tidied (map (λ t. effect_at clk (edge_now v t)) e.edges) (map (λ t. effect_at clk (edge_now v t)) rs)) Q (edges_tidied base k edge_less e.edges) _ (edges_tidied-is v base meets k h clk edge_less e.edges)
    (λ edges tidied. gives_some Q _ (record {
      passes = follows.fine.passes;
      agrees = same-agrees v base meets k h g d clk e.values values follows.agrees same;
      words = follows.words ∙ sym as_many;
      edges = map (λ t. effect_at clk (edge_now v t)) e.edges;
      effects = follows.effects;
      tidied = tidied;
    }))))

FailedIn-checks : (v : Valuation) (f : FaultKind) (n : Noted) → FailedIn v f n → Failed v f n.checks
unfolding FailedIn
FailedIn-checks v f n failed = failed

-- no check is made at the end
pub closed-checks : (base : Ground) (index_less : CaseTree → CaseTree → Bool) (edge_less : EdgeTrees → EdgeTrees → Bool) (n : ℕ) (e : EventMade) → Gives (event_closed base index_less edge_less n e) (λ c. c.checks ≡ e.noted.checks)
closed-checks base index_less edge_less n e =
    let Q : EventSum → Type 0 = λ c. c.checks ≡ e.noted.checks in
    skip Q (values_closed base e.noted.known index_less n e.values) _
    (λ values. skip Q (words_renewed base e.noted.known e.words) _
    (λ words. skip Q (edges_tidied base e.noted.known edge_less e.edges) _
    (λ edges. gives_some Q _ refl)))

-- where the trees of an event follow its run, so does its sum
pub sum-follows : (v : Valuation) (base : Ground) → Meets base v → (g : EventGraph) (clk : ℕ) (taken : List ℕ) (r : OrFault Done) (e : EventMade) → FollowsDone v g clk taken r e
    → (index_less : CaseTree → CaseTree → Bool) (edge_less : EdgeTrees → EdgeTrees → Bool) (n : ℕ) → Gives (event_closed base index_less edge_less n e) (FollowsSum v g clk taken r)
sum-follows v base meets g clk taken (Ok d) e follows index_less edge_less n = closed-follows v base meets g clk taken d e follows index_less edge_less n
sum-follows v base meets g clk taken (Err f) e failed index_less edge_less n =
    gives_weaker (λ c. Failed v f c.checks) _ (closed-checks base index_less edge_less n e) (λ c same. subst (Failed v f) (sym same) (FailedIn-checks v f e.noted failed))
