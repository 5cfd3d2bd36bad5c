-- Whether a range fits a variable, and holds what the variable keeps: by tests.
use Rattle.std.specs.Prelude.{ℕ, nat_lt, cond, List, int_le, Bool, true, not, ◌&&◌, ◌||◌, Option, Some, None}
use Rattle.std.specs.Ordering.{int_eq}
use Rattle.model_core.specs.EventGraph.{EventGraph, Variable}
use Rattle.model_core.specs.Run.State.{variable_at}
use Rattle.model_core.specs.declared.incoming.Incoming.{Incoming}
use Rattle.model_core.specs.declared.var_range.VarRange.{VarRange}
use Rattle.model_core.specs.Ranges.OtherRanges.{range_at}
use Rattle.model_core.specs.Ranges.Incoming.{kept_range}

-- a range fits a variable whose declared one stays or not
abbrev pub range_fits : Bool → Variable → VarRange → Bool
range_fits fixed v r = int_le r.lo r.hi && int_le v.lo r.lo && int_le r.hi v.hi && (not fixed || int_eq r.lo v.lo && int_eq r.hi v.hi)

-- a range holds what is kept, if anything is
abbrev pub encloses_kept : VarRange → Option VarRange → Bool
encloses_kept r None = true
encloses_kept r (Some k) = int_le r.lo k.lo && int_le k.hi r.hi

-- the first variable that is known to fail, after one more that is taken
abbrev pub first_after : EventGraph → List VarRange → ℕ → Incoming → ℕ
first_after g ranges first i =
    cond (nat_lt i.variable first && not (encloses_kept (range_at ranges i.variable) (kept_range (variable_at g i.variable) i.bounds))) i.variable first
