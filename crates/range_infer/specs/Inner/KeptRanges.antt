-- Ranges that are kept on a walk, and what was replaced since.
use Rattle.std.specs.Prelude.{◌≡◌, ℕ, List, [], ◌∷◌, length}
use Rattle.model_core.specs.EventGraph.{Variable}
use Rattle.range_infer.specs.declared.ranges_left.RangesLeft.{RangesLeft}
use Rattle.range_infer.specs.Inner.RangesLeft.{variables_left, RestoresTo}
use Rattle.range_infer.specs.Inner.Postfix.{Walk}

-- Each number counts what was replaced when ranges were kept, the last ones first; what was replaced since leads back to them,
-- and in the end to those of the beginning.
abbrev pub AreKept : RangesLeft → List ℕ → List (List Variable) → RangesLeft → Type 0
AreKept first [] [] now = RestoresTo first now
AreKept first (n ∷ ns) (rs ∷ kept) now = (old : RangesLeft) × (n ≡ length old.replaced.items) × RestoresTo old now × (variables_left old ≡ rs) × AreKept first ns kept old
AreKept first ns kept now = ⊥

-- the ranges of a walk are those that are left
pub record LeftOnWalk (first now : RangesLeft) (counts : List ℕ) (w : Walk) : Type 0 where
  pub ranges : variables_left now ≡ w.ranges
  pub kept : AreKept first counts w.kept now
