-- The rules after those of edges, one application at a time: the result of the code, and what it notes.
use Rattle.std.specs.Prelude.{◌≡◌, ℕ, Bool, true, false, List, [], ◌∷◌, ◌++◌, Option, Some, None}
use Rattle.model_core.specs.EventGraph.{EventGraph}
use Rattle.model_core.specs.Static.Reading.{IsValid}
use Rattle.model_core.specs.Text.Canonical.{variable_name, vertex_name}
use Rattle.model_core.specs.Rules.Prune.{first_prune}
use Rattle.model_core.specs.Rules.Settle.{first_settle}
use Rattle.model_core.specs.Rules.Conditions.{first_failed}
use Rattle.model_core.specs.Rules.Reached.{unreached}
use Rattle.model_core.specs.Rules.Drop.{dropped}
use Rattle.model_core.specs.Rules.Merge.{merged}
use Rattle.model_core.specs.Rules.Slice.{slice_conditions, sliced}
use Rattle.model_core.specs.Rules.Reduction.{RuleApplication, applied, drop_of, Strategy}
use Rattle.reducer.specs.declared.naming.Declared.{Declared}
use Rattle.reducer.specs.declared.naming.Declared.TheVariants as declarations

-- the name that is declared at a place
abbrev pub name_at_place : Declared → EventGraph → ℕ → List ℕ
name_at_place declarations.Variables g k = variable_name g k
name_at_place declarations.Vertices g k = vertex_name g k

-- no edge can be pruned or settled
pub record NoEdgeRule (g : EventGraph) : Type 0 where
  pub refuted : first_prune g ≡ None
  pub settled : first_settle g ≡ None

-- the laws that a drop, a merge and a slice bring no edge that can be pruned or settled
pub record LeavesEdges : Type 0 where
  pub prune_dropped : (g : EventGraph) (vertices : List ℕ) → first_prune g ≡ None → first_prune (dropped g vertices) ≡ None
  pub settle_dropped : (g : EventGraph) (vertices : List ℕ) → first_settle g ≡ None → first_settle (dropped g vertices) ≡ None
  pub prune_merged : (g : EventGraph) (first second : ℕ) → first_prune g ≡ None → first_prune (merged g first second) ≡ None
  pub settle_merged : (g : EventGraph) (first second : ℕ) → first_settle g ≡ None → first_settle (merged g first second) ≡ None
  pub prune_sliced : (g : EventGraph) (variables : List ℕ) → IsValid g → first_failed (slice_conditions g variables) ≡ None → first_prune (sliced g variables) ≡ first_prune g
  pub settle_sliced : (g : EventGraph) (variables : List ℕ) → IsValid g → first_failed (slice_conditions g variables) ≡ None → first_settle (sliced g variables) ≡ first_settle g

-- The application is made and noted, if there is one: whether it was, the graphs before and after it, and the applications
-- that were noted before and after it.
abbrev pub MadeAndNoted : Option RuleApplication → Bool → EventGraph → EventGraph → List RuleApplication → List RuleApplication → Type 0
MadeAndNoted one true g h before after = (a : RuleApplication) × (one ≡ Some a) × (applied g a ≡ Some h) × (after ≡ before ++ a ∷ [])
MadeAndNoted one false g h before after = (one ≡ None) × (h ≡ g) × (after ≡ before)

-- the drop of the vertices that can't be reached is made and noted as well, or nothing more is
pub data DropMayFollow (g h : EventGraph) (before after : List RuleApplication) : Type 0 where
  nothing_more : h ≡ g → after ≡ before → DropMayFollow g h before after
  dropped_too : MadeAndNoted (drop_of g (unreached g)) true g h before after → DropMayFollow g h before after

-- The application that the rule gives is made and noted, if there is one, and maybe the drop after it.
abbrev pub MadeThenDrop : (EventGraph → Option RuleApplication) → Bool → EventGraph → EventGraph → List RuleApplication → List RuleApplication → Type 0
MadeThenDrop rule true g h before after = (next : EventGraph) × (between : List RuleApplication) × MadeAndNoted (rule g) true g next before between × DropMayFollow next h between after
MadeThenDrop rule false g h before after = MadeAndNoted (rule g) false g h before after

-- the strategy's applications are made and noted
abbrev pub IsStrategyNoted : EventGraph → EventGraph → List RuleApplication → List RuleApplication → Type 0
IsStrategyNoted g h before after = (later : List RuleApplication) × (after ≡ before ++ later) × Strategy g later h
