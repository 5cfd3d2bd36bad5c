-- Ranges found in rounds: each grows until it holds all that its variable keeps of what it takes.
use Rattle.std.specs.Prelude.{◌≡◌, ℕ, zero, suc, ◌<◌, ◌==◌, nat_le, int_lt, Bool, ◌&&◌, cond, List, map, length, Option, Some, None}
use Rattle.std.specs.List.{fold, range_with_len}
use Rattle.std.specs.Int.{int_min, int_max}
use Rattle.model_core.specs.EventGraph.{EventGraph}
use Rattle.model_core.specs.Run.State.{variable_at}
use Rattle.model_core.specs.declared.incoming.Incoming.{Incoming}
use Rattle.model_core.specs.declared.var_range.VarRange.{VarRange}
use Rattle.model_core.specs.Ranges.OtherRanges.{declared_range, range_at}
use Rattle.model_core.specs.Ranges.Incoming.{incoming, kept_range}
use Rattle.model_core.specs.Ranges.Inductive.{is_fixed}

-- the least range that holds one, and another if there is one
abbrev pub hull : VarRange → Option VarRange → VarRange
hull r None = r
hull r (Some k) = record { lo = int_min r.lo k.lo; hi = int_max r.hi k.hi }

-- the least range that holds this one, and what the variable keeps of this if it takes it
abbrev pub grown_range : EventGraph → ℕ → VarRange → Incoming → VarRange
grown_range g v r i = cond (i.variable == v) (hull r (kept_range (variable_at g v) i.bounds)) r

-- from a range to one that holds it. In a late round an end that would move goes to the declared one
abbrev pub ends_moved : Bool → VarRange → VarRange → VarRange → VarRange
ends_moved late declared r new = record {
  lo = cond (late && int_lt new.lo r.lo) declared.lo new.lo;
  hi = cond (late && int_lt r.hi new.hi) declared.hi new.hi;
}

-- one for each variable of the model
abbrev pub each_variable : EventGraph → (ℕ → VarRange) → List VarRange
each_variable g f = map f (range_with_len 0 (length g.variables))

-- the range before the first round: the declared one where it stays, and else the initial value alone
abbrev pub first_range : EventGraph → ℕ → VarRange
first_range g v = cond (is_fixed g v) (declared_range (variable_at g v)) (record { lo = (variable_at g v).initial; hi = (variable_at g v).initial })

-- a variable's range after a round that was late or not, where `takes` is all that variables take under the ranges before it
abbrev pub next_range : EventGraph → Bool → List Incoming → List VarRange → ℕ → VarRange
next_range g late takes ranges v =
    let r = range_at ranges v in
    cond (is_fixed g v) r (ends_moved late (declared_range (variable_at g v)) r (fold (grown_range g v) r takes))

-- The round with this number, from 1. From the 17th on it is a late one.
abbrev pub round : EventGraph → ℕ → List VarRange → List VarRange
round g k ranges = each_variable g (next_range g (nat_le 17 k) (incoming g ranges) ranges)

-- the ranges after so many rounds
abbrev pub after_rounds : EventGraph → ℕ → List VarRange
after_rounds g zero = each_variable g (first_range g)
after_rounds g (suc k) = round g (suc k) (after_rounds g k)

-- The ranges that the rounds end with: the next one changes nothing, and is the 4,017th at most.
pub record IsInferred (g : EventGraph) (ranges : List VarRange) : Type 0 where
  pub rounds : ℕ
  pub few : rounds < 4017
  pub reached : after_rounds g rounds ≡ ranges
  pub stays : round g (suc rounds) ranges ≡ ranges
