-- An edge of an event at one moment, in its parts: when such edges may change places, and what it is to join two.
use Rattle.std.specs.Prelude.{ℕ, ◌+◌, ℤ, Bool, true, not, cond, ◌&&◌, ◌||◌, ◌==◌, List}
use Rattle.pair_laws.specs.Effects.{Effect, Appends, CancelsNext, CancelsEqual, CancelsAll}
use Rattle.pair_laws.specs.Exchanges.{EdgeEffect}

-- an edge schedules with this priority, at once with priority 0; or it cancels
pub data FormNow : Type 0 where
  Schedules : ℕ → FormNow
  TakesNext : FormNow
  TakesEqual : FormNow
  TakesAll : FormNow

-- whether its condition is true, its form and target, and its delay and values, which count only where it has such
pub record EdgeNow : Type 0 where
  pub holds : Bool
  pub form : FormNow
  pub target : ℕ
  pub delay : ℕ
  pub values : List ℤ

abbrev pub effect_as : ℕ → EdgeNow → FormNow → Effect
effect_as clk e (Schedules priority) = Appends (record { time = clk + e.delay; priority = priority; vertex = e.target; values = e.values })
effect_as clk e TakesNext = CancelsNext e.target
effect_as clk e TakesEqual = CancelsEqual e.target e.values
effect_as clk e TakesAll = CancelsAll e.target

-- what it does at this clock
abbrev pub effect_at : ℕ → EdgeNow → EdgeEffect
effect_at clk e = record { holds = e.holds; effect = effect_as clk e e.form }

-- Two that schedule, with other priorities or delays; one that schedules and one that cancels, with another target; two that
-- cancel, but with one target not one the next and the other the next with these values.
abbrev pub may_change_as : EdgeNow → EdgeNow → FormNow → FormNow → Bool
may_change_as a b (Schedules p) (Schedules q) = not (p == q) || not (a.delay == b.delay)
may_change_as a b (Schedules p) TakesNext = not (a.target == b.target)
may_change_as a b (Schedules p) TakesEqual = not (a.target == b.target)
may_change_as a b (Schedules p) TakesAll = not (a.target == b.target)
may_change_as a b TakesNext (Schedules q) = not (a.target == b.target)
may_change_as a b TakesEqual (Schedules q) = not (a.target == b.target)
may_change_as a b TakesAll (Schedules q) = not (a.target == b.target)
may_change_as a b TakesNext TakesEqual = not (a.target == b.target)
may_change_as a b TakesEqual TakesNext = not (a.target == b.target)
may_change_as a b f h = true

abbrev pub may_change_now : EdgeNow → EdgeNow → Bool
may_change_now a b = not (a.holds && b.holds) || may_change_as a b a.form b.form

-- one edge for two
abbrev pub joined_edge_now : EdgeNow → EdgeNow → EdgeNow
joined_edge_now a b = record { holds = a.holds || b.holds; form = a.form; target = a.target; delay = cond a.holds a.delay b.delay; values = cond a.holds a.values b.values }
