-- The normal form of a model: what at most eight rounds of narrowing, reducing and fusing make of it.
use Rattle.std.specs.Prelude.{◌≡◌, ℕ, zero, suc, List}
use Rattle.normal_form.specs.declared.limits.TheConstants.{ROUNDS_MAX}
use Rattle.model_core.specs.EventGraph.{EventGraph}
use Rattle.model_core.specs.Ranges.Narrowed.{IsNarrowed}
use Rattle.model_core.specs.Rules.Reduction.{RuleApplication, Strategy}
use Rattle.model_core.specs.Rules.Fuse.{Fused}

-- one round: the ranges that runs need, then the rules of reduction as long as one applies, then fuse as long as there are twins
pub record Round (g h : EventGraph) : Type 0 where
  pub narrowed : EventGraph
  pub applications : List RuleApplication
  pub reduced : EventGraph
  pub is_narrowed : IsNarrowed g narrowed
  pub is_reduced : Strategy narrowed applications reduced
  pub is_fused : Fused reduced h

-- the first model that a round leaves as it is, or the one after so many rounds
pub data NormalWithin : ℕ → EventGraph → EventGraph → Type 0 where
  no_round_left : {g : EventGraph} → NormalWithin zero g g
  left_as_it_is : {rounds : ℕ} {g : EventGraph} → Round g g → NormalWithin (suc rounds) g g
  after_a_round : {rounds : ℕ} {g h : EventGraph} (next : EventGraph) → Round g next → (g ≡ next → ⊥) → NormalWithin rounds next h → NormalWithin (suc rounds) g h

abbrev pub Normal : EventGraph → EventGraph → Type 0
Normal g h = NormalWithin ROUNDS_MAX g h
