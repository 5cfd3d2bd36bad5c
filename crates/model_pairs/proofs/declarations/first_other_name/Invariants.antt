use Rattle.std.proofs.Common.{ℕ}
use Rattle.model_core.specs.Code.Views.{graph_of}
use Rattle.model_pairs.specs.DeclaredApart.{names_differ}
use Rattle.model_pairs.proofs.SideBySide.{SoughtBeside}
use Rattle.model_pairs.proofs.declarations.first_other_name.Given as goal

abbrev pub invariant-loop-v : goal.invariant-loop-v
invariant-loop-v l = SoughtBeside (names_differ (graph_of l.m) (graph_of l.m2)) (λ (v : ℕ). v) l.params l.params2 l.v-iterator
