-- Sources and sinks over memory, as contracts see them.
use Rattle.std.specs.Prelude.{ℕ, Bool, List}

-- A source over memory: the bytes not yet read, the most that a read gives, and the numbers of the
-- calls that fail; how many calls there were, and how many of them failed.
pub record Supply : Type 0 where
  pub left : List ℕ
  pub piece : ℕ
  pub failing : List ℕ
  pub calls : ℕ
  pub faults : ℕ

-- A sink over memory: the bytes taken, the most that it holds, the most that a write takes, and the
-- numbers of the calls that fail; how many calls there were, how many of them failed, and whether
-- all that was written is finished.
pub record Store : Type 0 where
  pub written : List ℕ
  pub capacity : ℕ
  pub piece : ℕ
  pub failing : List ℕ
  pub calls : ℕ
  pub faults : ℕ
  pub settled : Bool

-- A source over memory that never fails: the bytes not yet read, and the most that a read gives.
pub record SureSupply : Type 0 where
  pub left : List ℕ
  pub piece : ℕ
