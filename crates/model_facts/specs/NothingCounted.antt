-- Counts of uses in which no variable has a reader, and which have a number for each of so many variables at least.
use Rattle.std.specs.Prelude.{◌≡◌, ℕ, ◌≤◌, length, slice_index}
use Rattle.use_analysis.specs.UseNumbers.{UseNumbers}

pub record NothingCounted (variables : ℕ) (counts : UseNumbers) : Type 0 where
  pub enough : variables ≤ length counts.readers
  pub none : (v : ℕ) → slice_index counts.readers v ≡ 0
