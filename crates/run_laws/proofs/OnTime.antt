-- No pending event is earlier than the clock, at each moment of a run, so that the clock never goes back.
use Rattle.std.proofs.Common.{◌≡◌, ℕ, ◌≤◌, le_trans, ℤ, Bool, true, false, cond, List, [], ◌∷◌, Option, Some, None, Ok, refl, sym, subst, arith}
use Rattle.std.proofs.lemmas.Bool.Decides.{nat_tests}
use Rattle.std.specs.List.{AllByRecursion}
use Rattle.sig_base.proofs.Lists.{every-always}
use Rattle.model_core.specs.EventGraph.{EventGraph, EventVertex, EventEdge, EdgeKind, Schedule, Urgent, CancelNext, CancelEqual, CancelAll}
use Rattle.model_core.specs.Run.State.{State}
use Rattle.model_core.specs.Run.Pending.{Entry, EntryAndRest, sooner, staying, next_or_first, next_entry}
use Rattle.model_core.specs.Run.Step.{Configuration, vertex_at, occur, step}
use Rattle.model_core.specs.Run.History.{start}
use Rattle.model_core.proofs.EachOne.{every-map}
use Rattle.run_laws.proofs.MappedPending.{next_among-every}
use Rattle.run_laws.proofs.Keeping.{Kept, faulted-ok}
use Rattle.run_laws.proofs.MadeEntries.{SchedulesOnly, occur-every}

-- none of these events is earlier
abbrev pub NoneEarlier : ℕ → List Entry → Type 0
NoneEarlier time entries = AllByRecursion (λ e. time ≤ e.time) entries

-- ---- the next event is the first to come

sooner-earlier : (a b : Entry) → sooner a b ≡ true → a.time ≤ b.time
sooner-earlier a b e = grind (arith, nat_tests)

not_sooner-later : (a b : Entry) → sooner a b ≡ false → b.time ≤ a.time
not_sooner-later a b e = grind (arith, nat_tests)

no_next-none : (time : ℕ) (p : List Entry) → next_entry p ≡ None → NoneEarlier time p
no_next-none time [] e = tt
no_next-none time (x ∷ p) e = never (next_entry p) e where
  never : (o : Option EntryAndRest) → next_or_first x p o ≡ None → NoneEarlier time (x ∷ p)
  never None e = cc
  never (Some k) e = cc

chosen-later : (x : Entry) (p : List Entry) (k n : EntryAndRest) (b : Bool) → sooner k.entry x ≡ b → NoneEarlier k.entry.time p → Some (cond b (staying x k) (record { entry = x; others = p })) ≡ Some n → NoneEarlier n.entry.time (x ∷ p)
chosen-later x p k n true is all e =
    let same : staying x k ≡ n = cc in
    subst (λ (n : EntryAndRest). NoneEarlier n.entry.time (x ∷ p)) same (sooner-earlier k.entry x is, all)
chosen-later x p k n false is all e =
    let same : record { entry = x; others = p } ≡ n = cc in
    let later = every-map (λ e. k.entry.time ≤ e.time) (λ e. x.time ≤ e.time) (λ e from. le_trans (not_sooner-later k.entry x is) from) p all in
    subst (λ (n : EntryAndRest). NoneEarlier n.entry.time (x ∷ p)) same (omega arith, later)

all_later : (p : List Entry) (n : EntryAndRest) → next_entry p ≡ Some n → NoneEarlier n.entry.time p
all_later [] n e = cc
all_later (x ∷ p) n e = by_next (next_entry p) refl e (all_later p) where
  by_next : (o : Option EntryAndRest) → next_entry p ≡ o → next_or_first x p o ≡ Some n → ((k : EntryAndRest) → next_entry p ≡ Some k → NoneEarlier k.entry.time p) → NoneEarlier n.entry.time (x ∷ p)
  by_next None is e later =
      let same : record { entry = x; others = p } ≡ n = cc in
      subst (λ (n : EntryAndRest). NoneEarlier n.entry.time (x ∷ p)) same (omega arith, no_next-none x.time p is)
  by_next (Some k) is e later = chosen-later x p k n (sooner k.entry x) refl (later k is) e

-- when the next event is taken off, none of the others is earlier
pub others_later : (p : List Entry) (n : EntryAndRest) → next_entry p ≡ Some n → NoneEarlier n.entry.time n.others
others_later p n e = (next_among-every (λ x. n.entry.time ≤ x.time) (λ x. true) p (all_later p n e) n e).1

-- ---- the clock

schedules_later : (g : EventGraph) (seed : ℕ) (s : State) (clk : ℕ) (e : EventEdge) (kind : EdgeKind) → SchedulesOnly (λ e. clk ≤ e.time) g seed s clk e kind
schedules_later g seed s clk e (Schedule delay priority) = λ taken wait values at_delay at_values. omega arith
schedules_later g seed s clk e Urgent = λ values at_values. omega arith
schedules_later g seed s clk e CancelNext = tt
schedules_later g seed s clk e CancelEqual = tt
schedules_later g seed s clk e CancelAll = tt

-- what always holds is kept
pub always : (g : EventGraph) → Kept g (λ s. Unit {0})
always g = record { by_store = λ p s t q e. tt; by_change = λ seed clk c d e q done. tt }

-- after the next event the clock has its time, and again no event is earlier
pub occur-on_time : (g : EventGraph) (seed : ℕ) (v : EventVertex) (c d : Configuration) (n : EntryAndRest) → next_entry c.pending ≡ Some n → occur g seed v n c.state c.taken ≡ Ok d → (d.clock ≡ n.entry.time) × NoneEarlier d.clock d.pending
occur-on_time g seed v c d n at_next done =
    let (time, every) = occur-every (λ e. n.entry.time ≤ e.time) g seed (λ s. Unit {0}) (always g) v n c.state c.taken d tt (λ t q. every-always _ (λ e. schedules_later g seed t n.entry.time e e.kind) v.edges) (others_later c.pending n at_next) done in
    (time, subst (λ (t : ℕ). NoneEarlier t d.pending) (sym time) every)

pub step-on_time : (g : EventGraph) (seed : ℕ) (c d : Configuration) (n : EntryAndRest) → next_entry c.pending ≡ Some n → step g seed c n ≡ Ok d → (d.clock ≡ n.entry.time) × NoneEarlier d.clock d.pending
step-on_time g seed c d n at_next done = occur-on_time g seed (vertex_at g n.entry.vertex) c d n at_next (faulted-ok n.entry.time _ d done)

-- a run begins so
pub starts-on_time : (g : EventGraph) (starts : List ℤ) → NoneEarlier (start g starts).now.clock (start g starts).now.pending
starts-on_time g starts = (omega arith, tt)
