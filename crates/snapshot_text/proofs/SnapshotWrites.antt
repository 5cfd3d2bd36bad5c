-- The text of a saved run reads back, at any place, as a written snapshot of the same parts.
use Rattle.std.proofs.Common.{ℕ, ◌+◌, ◌/◌, ◌%◌, ◌^◌, ◌<◌, ◌≤◌, List, length, refl, arith}
use Rattle.std.specs.Prelude.{Option, codes, IfSome}
use Rattle.std.specs.List.{AllByRecursion}
use Rattle.model_core.specs.declared.token.Word.TheVariants as words
use Rattle.model_core.specs.EventGraph.{EventGraph}
use Rattle.model_core.specs.Text.Written.{WrittenNumber}
use Rattle.model_core.specs.Text.Spellable.{IsSigned, openings_together}
use Rattle.round_trip.proofs.Writing.{Writes, Any, Takes, takes, writes-yields, writes-then, writes-before, blank_after, feed_after}
use Rattle.round_trip.proofs.OneToken.{a_word, writes-number}
use Rattle.round_trip.proofs.ExpressionText.{is_word}
use Rattle.round_trip.proofs.ListText.{Pairs}
use Rattle.model_core.specs.Saved.SavedRun.{SavedRun}
use Rattle.model_core.specs.Text.SnapshotGrammar.{WrittenStream, WrittenValue, WrittenNoted, WrittenPending, WrittenSnapshot, snapshot_format}
use Rattle.model_core.specs.Text.SnapshotText.{snapshot_text, pending_line}
use Rattle.snapshot_text.proofs.NamesSpelled.{writes-this_name, rows-write}
use Rattle.snapshot_text.proofs.SnapshotLines.{IsNumber, AreStreams, streams-write, AreValues, values_cost, HaveValues, values-write, MaybeNoted, noted_cost, noted-writes, PendingIs, IsWritableEntry, entry_cost, pending-writes}

-- a saved run that a text can write
pub record IsWritable (g : EventGraph) (s : SavedRun) : Type 0 where
  pub seed : s.seed < 2 ^ 64
  pub clock : s.clock < 2 ^ 63
  pub events : s.events < 2 ^ 63
  pub streams : length s.taken ≤ 64
  pub words : AllByRecursion (λ n. n ≤ 2 ^ 52) s.taken
  pub values : HaveValues g.variables s.values
  pub noted : IfSome s.noted (λ values. AllByRecursion IsSigned values)
  pub pending : AllByRecursion (IsWritableEntry g s.clock) s.pending

-- the written snapshot has the parts of the saved run
pub record SnapshotIs (g : EventGraph) (s : SavedRun) (w : WrittenSnapshot) : Type 0 where
  pub seed : IsNumber (s.seed / 2 ^ 32) w.seed
  pub seed_rest : IsNumber (s.seed % 2 ^ 32) w.seed_rest
  pub clock : IsNumber s.clock w.clock
  pub events : IsNumber s.events w.events
  pub streams : AreStreams 0 s.taken w.streams
  pub values : AreValues g.variables s.values w.values
  pub noted : MaybeNoted s.noted w.noted
  pub pending : Pairs (PendingIs g s.clock) s.pending w.pending

module _ (g : EventGraph) (s : SavedRun) (h : IsWritable g s) where
  abbrev AnyPlace : ℕ → Type 0
  AnyPlace at = Unit {0}

  -- the result of each part, from the result of those before it
  abbrev AfterPending : (ℕ → WrittenSnapshot) → Type 0
  AfterPending = Takes AnyPlace (SnapshotIs g s)

  abbrev AfterNoted : (List WrittenPending → ℕ → WrittenSnapshot) → Type 0
  AfterNoted = Takes (Pairs (PendingIs g s.clock) s.pending) AfterPending

  abbrev AfterValues : (Option WrittenNoted → List WrittenPending → ℕ → WrittenSnapshot) → Type 0
  AfterValues = Takes (MaybeNoted s.noted) AfterNoted

  abbrev AfterStreams : (List WrittenValue → Option WrittenNoted → List WrittenPending → ℕ → WrittenSnapshot) → Type 0
  AfterStreams = Takes (AreValues g.variables s.values) AfterValues

  abbrev AfterEvents : (List WrittenStream → List WrittenValue → Option WrittenNoted → List WrittenPending → ℕ → WrittenSnapshot) → Type 0
  AfterEvents = Takes (AreStreams 0 s.taken) AfterStreams

  abbrev AfterClock : (ℕ → WrittenNumber → List WrittenStream → List WrittenValue → Option WrittenNoted → List WrittenPending → ℕ → WrittenSnapshot) → Type 0
  AfterClock = Takes AnyPlace (Takes (IsNumber s.events) AfterEvents)

  abbrev AfterSeed : (ℕ → WrittenNumber → ℕ → WrittenNumber → List WrittenStream → List WrittenValue → Option WrittenNoted → List WrittenPending → ℕ → WrittenSnapshot) → Type 0
  AfterSeed = Takes AnyPlace (Takes (IsNumber s.clock) AfterClock)

  abbrev AfterWord : (ℕ → WrittenNumber → WrittenNumber → ℕ → WrittenNumber → ℕ → WrittenNumber → List WrittenStream → List WrittenValue → Option WrittenNoted → List WrittenPending → ℕ → WrittenSnapshot) → Type 0
  AfterWord = Takes AnyPlace (Takes (IsNumber (s.seed / 2 ^ 32)) (Takes (IsNumber (s.seed % 2 ^ 32)) AfterSeed))

  abbrev pub cost : ℕ → ℕ
  cost j = values_cost g.variables s.values + (noted_cost s.noted + (openings_together entry_cost s.pending + j))

  pub snapshot-writes : (j : ℕ) → Writes snapshot_format (snapshot_text g s) Any (cost j) j (SnapshotIs g s)
  unfolding snapshot_format
  snapshot-writes j =
      writes-then {K = AnyPlace}
      (writes-then {K = Pairs (PendingIs g s.clock) s.pending} {J = AfterPending}
      (writes-then {K = MaybeNoted s.noted} {J = AfterNoted}
      (writes-then {K = AreValues g.variables s.values} {J = AfterValues}
      (writes-then {K = AreStreams 0 s.taken} {J = AfterStreams}
      (feed_after (λ rest. refl) (writes-then {K = IsNumber s.events} {J = AfterEvents}
      (writes-then {K = AnyPlace} {J = Takes (IsNumber s.events) AfterEvents}
      (feed_after (λ rest. refl) (writes-then {K = IsNumber s.clock} {J = AfterClock}
      (writes-then {K = AnyPlace} {J = Takes (IsNumber s.clock) AfterClock}
      (feed_after (λ rest. refl) (writes-then {K = IsNumber (s.seed % 2 ^ 32)} {J = AfterSeed}
      (blank_after (λ rest. refl) (writes-then {K = IsNumber (s.seed / 2 ^ 32)} {J = Takes (IsNumber (s.seed % 2 ^ 32)) AfterSeed}
      (writes-then {K = AnyPlace} {J = Takes (IsNumber (s.seed / 2 ^ 32)) (Takes (IsNumber (s.seed % 2 ^ 32)) AfterSeed)}
      (writes-before {F = Any} {G = AfterWord}
      (writes-yields _ (takes (λ seed_at a. takes (λ seed b. takes (λ rest c. takes (λ clock_at d. takes (λ clock e. takes (λ events_at f. takes (λ events k. takes (λ streams l. takes (λ values m. takes (λ noted n. takes (λ pending o. takes (λ end_at p.
      record { seed = b; seed_rest = c; clock = e; events = k; streams = l; values = m; noted = n; pending = o }))))))))))))))
      (λ rest i. tt) (feed_after (λ rest. refl) (writes-this_name 115 (codes "napshot") refl refl refl)))
      (λ rest i. tt) (blank_after (λ rest. refl) (writes-this_name 115 (codes "eed") refl refl refl)))
      (λ rest i. tt) (writes-number (s.seed / 2 ^ 32) (omega (arith, h.seed)))))
      (λ rest i. tt) (writes-number (s.seed % 2 ^ 32) (omega arith))))
      (λ rest i. tt) (blank_after (λ rest. refl) (a_word 99 (codes "lk") words.Clk (is_word refl refl refl) refl)))
      (λ rest i. tt) (writes-number s.clock h.clock)))
      (λ rest i. tt) (blank_after (λ rest. refl) (writes-this_name 101 (codes "vents") refl refl refl)))
      (λ rest i. tt) (writes-number s.events h.events)))
      (λ rest i. tt) (streams-write 0 s.taken (omega (arith, h.streams)) h.words))
      (λ rest i. tt) (values-write g.variables s.values h.values _))
      (λ rest i. tt) (noted-writes s.noted h.noted _))
      (λ rest i. tt) (rows-write (pending_line g s.clock) entry_cost (IsWritableEntry g s.clock) (PendingIs g s.clock) (pending-writes g s.clock) s.pending h.pending j))
      (λ rest i. tt) (feed_after (λ rest. refl) (a_word 101 (codes "nd") words.End (is_word refl refl refl) refl))
