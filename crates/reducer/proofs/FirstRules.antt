-- Applications each of which is the first rule of the graph that it meets: the strategy before its end.
use Rattle.std.proofs.Common.{◌≡◌, List, [], ◌∷◌, ◌++◌, Some, sym, subst}
use Rattle.model_core.specs.EventGraph.{EventGraph}
use Rattle.model_core.specs.Rules.Reduction.{RuleApplication, first_rule, applied, Chain, Strategy}

abbrev pub AreFirst : EventGraph → List RuleApplication → EventGraph → Type 0
AreFirst g [] reached = g ≡ reached
AreFirst g (a ∷ later) reached = (first_rule g ≡ Some a) × (next : EventGraph) × (applied g a ≡ Some next) × AreFirst next later reached

pub are_first-append : (as_ bs : List RuleApplication) (g h k : EventGraph) → AreFirst g as_ h → AreFirst h bs k → AreFirst g (as_ ++ bs) k
are_first-append [] bs g h k here later = subst (λ (g : EventGraph). AreFirst g bs k) (sym here) later
are_first-append (a ∷ as_) bs g h k (is_first, next, made, others) later = (is_first, next, made, are_first-append as_ bs next h k others later)

pub are_first-strategy : (as_ bs : List RuleApplication) (g h k : EventGraph) → AreFirst g as_ h → Strategy h bs k → Strategy g (as_ ++ bs) k
are_first-strategy [] bs g h k here later = subst (λ (g : EventGraph). Strategy g bs k) (sym here) later
are_first-strategy (a ∷ as_) bs g h k (is_first, next, made, others) later = (is_first, next, made, are_first-strategy as_ bs next h k others later)

pub are_first-chain : (as_ : List RuleApplication) (g h : EventGraph) → AreFirst g as_ h → Chain g as_ h
are_first-chain [] g h here = here
are_first-chain (a ∷ as_) g h (is_first, next, made, others) = (next, made, are_first-chain as_ next h others)
