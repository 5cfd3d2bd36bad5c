-- Counts of the words taken from each stream.
use Rattle.std.proofs.Common.{◌≡◌, ℕ, replicate}
use Rattle.model_core.specs.Run.Changes.{taken_from}
use Rattle.run_laws.proofs.InRange.{replicate-get}

-- of streams from which no word was taken
pub none_taken : (n s : ℕ) → taken_from (replicate n 0) s ≡ 0
none_taken n s = replicate-get n s 0
