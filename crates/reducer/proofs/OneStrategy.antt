-- The strategy makes one list of applications of a graph, and reaches one graph.
use Rattle.std.proofs.Common.{◌≡◌, List, [], ◌∷◌, Option, Some, sym, ap, ◌∙◌, subst}
use Rattle.sig_base.proofs.Tests.{some_is_not_none}
use Rattle.model_core.specs.EventGraph.{EventGraph}
use Rattle.model_core.specs.Rules.Reduction.{RuleApplication, first_rule, applied, Strategy}

-- the strategy's result on a graph: the applications, and the graph to which they lead
pub record Result : Type 0 where
  pub applications : List RuleApplication
  pub graph : EventGraph

abbrev result : List RuleApplication → EventGraph → Result
result applications graph = record { applications = applications; graph = graph }

same_next : {A : Type 0} (o : Option A) (x y : A) → o ≡ Some x → o ≡ Some y → x ≡ y
same_next o x y e f = cc

pub one_strategy : (a b : List RuleApplication) (g h k : EventGraph) → Strategy g a h → Strategy g b k → result a h ≡ result b k
one_strategy [] [] g h k p q = ap (result []) (sym p.1 ∙ q.1)
one_strategy [] (y ∷ ys) g h k p q = absurd (some_is_not_none (first_rule g) y p.0 q.0)
one_strategy (x ∷ xs) [] g h k p q = absurd (some_is_not_none (first_rule g) x q.0 p.0)
one_strategy (x ∷ xs) (y ∷ ys) g h k p q =
    let rule : x ≡ y = same_next (first_rule g) x y p.0 q.0 in
    let next : p.1 ≡ q.1 = same_next (applied g y) p.1 q.1 (ap (applied g) (sym rule) ∙ p.2) q.2 in
    let rest = one_strategy xs ys p.1 h k p.3 (subst (λ (n : EventGraph). Strategy n ys k) (sym next) q.3) in
    ap (λ (r : Result). result (x ∷ r.applications) r.graph) rest ∙ ap (λ z. result (z ∷ ys) k) rule
