-- What a verdict says: that applications are a chain to a graph or to another, or which one is bad.
use Rattle.std.proofs.Common.{◌≡◌, ◌≢◌, ◌↔◌, ℕ, Bool, true, false, cond, IsTrue, List, [], ◌∷◌, Option, Some, None, refl, sym, ◌∙◌, ap, ap₂}
use Rattle.std.specs.Option.{option_map_or, option_and_then, option_eq}
use Rattle.model_core.specs.EventGraph.{EventGraph}
use Rattle.model_core.specs.Rules.Reduction.{RuleApplication, applied, Chain, first_bad}
use Rattle.model_core.specs.Rules.SameGraph.{same_graph}
use Rattle.model_core.specs.Rules.Verdict.{Verdict, Sound, Rejected, Differs, graph_reached, verdict}
use Rattle.model_core.proofs.SameGraphs.{graphs_decide}
use Rattle.reduction_cert.proofs.Chains.{first_bad-None}

-- ---- the graph reached

reached-from : (g h : EventGraph) (a : RuleApplication) (later : List RuleApplication) (o : Option EventGraph) → applied g a ≡ o → ((next : EventGraph) → graph_reached next later ≡ Some h → Chain next later h) → option_and_then (λ next. graph_reached next later) o ≡ Some h → Chain g (a ∷ later) h
reached-from g h a later None made go e = cc
reached-from g h a later (Some next) made go e = (next, made, go next e)

reached-chain : (g : EventGraph) (applications : List RuleApplication) (h : EventGraph) → graph_reached g applications ≡ Some h → Chain g applications h
reached-chain g [] h e = cc
reached-chain g (a ∷ later) h e = reached-from g h a later (applied g a) refl (λ next. reached-chain next later h) e

chain-reached : (g : EventGraph) (applications : List RuleApplication) (h : EventGraph) → Chain g applications h → graph_reached g applications ≡ Some h
chain-reached g [] h e = ap Some e
chain-reached g (a ∷ later) h (next, made, others) = ap (option_and_then (λ next. graph_reached next later)) made ∙ chain-reached next later h others

-- ---- the verdict

abbrev verdict_on : Option ℕ → Option EventGraph → EventGraph → Verdict
verdict_on bad reached h = option_map_or Rejected bad (cond (option_eq same_graph reached (Some h)) Sound Differs)

-- of a chain to a graph
of_chain : (g : EventGraph) (applications : List RuleApplication) (k h : EventGraph) → Chain g applications k → verdict g applications h ≡ cond (same_graph k h) Sound Differs
of_chain g applications k h chain = ap₂ (λ bad reached. verdict_on bad reached h) ((first_bad-None g applications).1 (k, chain)) (chain-reached g applications k chain)

sound_if : (b : Bool) → cond b Sound Differs ≡ Sound → b ≡ true
sound_if true e = refl
sound_if false e = cc

differs_if : (b : Bool) → cond b Sound Differs ≡ Differs → b ≡ false
differs_if true e = cc
differs_if false e = refl

never_rejected : (b : Bool) (n : ℕ) → cond b Sound Differs ≡ Rejected n → ⊥
never_rejected true n e = cc
never_rejected false n e = cc

sound-reached : (bad : Option ℕ) (reached : Option EventGraph) (h : EventGraph) → verdict_on bad reached h ≡ Sound → reached ≡ Some h
sound-reached (Some n) reached h e = cc
sound-reached None None h e = cc
sound-reached None (Some k) h e = ap Some ((graphs_decide k h).0 (sound_if (same_graph k h) e))

differs-reached : (bad : Option ℕ) (reached : Option EventGraph) (h : EventGraph) → verdict_on bad reached h ≡ Differs → (bad ≡ None) × (reached ≢ Some h)
differs-reached (Some n) reached h e = cc
differs-reached None None h e = (refl, λ same. cc)
differs-reached None (Some k) h e = (refl, λ same. let alike : k ≡ h = cc in let test : same_graph k h ≡ true = (graphs_decide k h).1 alike in let other : same_graph k h ≡ false = differs_if (same_graph k h) e in cc)

rejected-bad : (bad : Option ℕ) (reached : Option EventGraph) (h : EventGraph) (n : ℕ) → verdict_on bad reached h ≡ Rejected n → bad ≡ Some n
rejected-bad (Some k) reached h n e = cc
rejected-bad None reached h n e = absurd (never_rejected (option_eq same_graph reached (Some h)) n e)

pub verdict-Sound : (g : EventGraph) (applications : List RuleApplication) (h : EventGraph) → (verdict g applications h ≡ Sound) ↔ Chain g applications h
verdict-Sound g applications h = (
  λ e. reached-chain g applications h (sound-reached (first_bad g applications) (graph_reached g applications) h e),
  λ chain. of_chain g applications h h chain ∙ ap (λ b. cond b Sound Differs) ((graphs_decide h h).1 refl),
)

pub verdict-Rejected : (g : EventGraph) (applications : List RuleApplication) (h : EventGraph) (n : ℕ) → (verdict g applications h ≡ Rejected n) ↔ (first_bad g applications ≡ Some n)
verdict-Rejected g applications h n = (
  rejected-bad (first_bad g applications) (graph_reached g applications) h n,
  ap (λ bad. verdict_on bad (graph_reached g applications) h),
)

unlike : (k h : EventGraph) (b : Bool) → same_graph k h ≡ b → k ≢ h → b ≡ false
unlike k h true e other = absurd (other ((graphs_decide k h).0 e))
unlike k h false e other = refl

pub verdict-Differs : (g : EventGraph) (applications : List RuleApplication) (h : EventGraph) → (verdict g applications h ≡ Differs) ↔ ((k : EventGraph) × Chain g applications k × (k ≢ h))
verdict-Differs g applications h = (
  λ e.
      let (good, other) = differs-reached (first_bad g applications) (graph_reached g applications) h e in
      let (k, chain) = (first_bad-None g applications).0 good in
      (k, chain, λ same. other (chain-reached g applications k chain ∙ ap Some same)),
  λ (k, chain, other). of_chain g applications k h chain ∙ ap (λ b. cond b Sound Differs) (unlike k h (same_graph k h) refl other),
)

-- ---- the code's test

-- two graphs are equal exactly where their comparison says so
pub same_graph-by_parts : (r : Bool) (g h : EventGraph) → IsTrue r ↔ (g ≡ h) → same_graph g h ≡ r
same_graph-by_parts true g h (to, from) = (graphs_decide g h).1 (to refl)
same_graph-by_parts false g h (to, from) = unlike g h (same_graph g h) refl (λ same. let never : false ≡ true = from same in cc)

-- where no application was bad, the verdict on the original: the applications were read where they lie, and made on a copy
pub verdict-at_end : (g copy : EventGraph) (applications read : List RuleApplication) (k h : EventGraph) (bad : Option ℕ) (r b : Bool) → copy ≡ g → read ≡ applications → bad ≡ None → bad ≡ first_bad copy read → graph_reached copy read ≡ Some k → IsTrue r ↔ (k ≡ h) → r ≡ b → cond b Sound Differs ≡ verdict g applications h
verdict-at_end g copy applications read k h bad r b same listed none is reached test same_answer =
    ap (λ b. cond b Sound Differs) (sym (same_graph-by_parts r k h test ∙ same_answer))
    ∙ ap₂ (λ bad reached. verdict_on bad reached h) (sym none ∙ is) (sym reached)
    ∙ ap₂ (λ g applications. verdict g applications h) same listed
