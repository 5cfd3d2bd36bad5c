-- Two looks that no two runs of alike models have, given one seed, one list of starting values and one stop time.
use Rattle.std.specs.Prelude.{◌≡◌, IsTrue}
use Rattle.model_core.specs.Run.Machine.{Look, Going, finished}
use Rattle.model_core.specs.Run.Same.{Begins}

pub data LooksApart (a b : Look) : Type 0 where
  -- both are finished, and their histories or results differ
  OtherEnds : IsTrue (finished a.standing) → IsTrue (finished b.standing) → ¬ (a ≡ b) → LooksApart a b
  -- the first is finished, and the second, which goes on, shows something else
  FirstOver : IsTrue (finished a.standing) → b.standing ≡ Going → ¬ Begins b.history a.history → LooksApart a b
  -- the second is finished, and the first, which goes on, shows something else
  SecondOver : a.standing ≡ Going → IsTrue (finished b.standing) → ¬ Begins a.history b.history → LooksApart a b
  -- both go on, and neither has shown what the other shows
  OtherNotes : a.standing ≡ Going → b.standing ≡ Going → ¬ Begins a.history b.history → ¬ Begins b.history a.history → LooksApart a b
