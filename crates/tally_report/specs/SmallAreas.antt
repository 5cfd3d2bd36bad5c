-- Why no area overflows: values have 64 bits, so that an area is at most 2^63 for each tick in magnitude.
use Rattle.std.specs.Prelude.{ℕ, ◌-◌, ◌*◌, ◌^◌, ◌≤◌, ℤ, pos, neg_ℤ, ◌≤ℤ◌}
use Rattle.sig_base.specs.declared.limits.TheConstants.{STOP_MAX}
use Rattle.tally_report.specs.declared.item.Item.{Item}
use Rattle.tally_report.specs.declared.item.Item.TheVariants as items

-- the area of values of 64 bits over so many ticks
pub record IsSmallArea (ticks : ℕ) (area : ℤ) : Type 0 where
  pub above : neg_ℤ (pos (2 ^ 63 * ticks)) ≤ℤ area
  pub below : area ≤ℤ pos ((2 ^ 63 - 1) * ticks)

-- items of so many runs, each over at most 2^48 ticks and with at most 2^42 notes
abbrev pub IsOfRuns : ℕ → Item → Type 0
IsOfRuns runs (items.Cell span area) = IsSmallArea (STOP_MAX * runs) area
IsOfRuns runs (items.Count n) = n ≤ 2 ^ 42 * runs
