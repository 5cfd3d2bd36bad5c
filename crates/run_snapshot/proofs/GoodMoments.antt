-- Each moment of a run of a valid model is good to save.
use Rattle.std.proofs.Common.{◌≡◌, ℕ, suc, ◌+◌, ◌*◌, ◌^◌, ◌≤◌, ℤ, Bool, true, false, cond, nat_lt, List, [], ◌∷◌, map, replicate, length, Option, Some, Ok, sym, ◌∙◌, subst, arith, IsTrue}
use Rattle.std.specs.Prelude.{IfSome}
use Rattle.std.specs.List.{AllByRecursion}
use Rattle.std.proofs.lemmas.List.{length-map, length-replicate}
use lib.Pointwise.{pointwise_long}
use Rattle.sig_base.proofs.Lists.{slice_index_or-all}
use Rattle.model_core.specs.EventGraph.{EventGraph, Variable, EventVertex}
use Rattle.model_core.specs.Run.State.{variable_at, within, in_ranges, in_range}
use Rattle.model_core.specs.Run.Changes.{taken_from}
use Rattle.model_core.specs.Run.Pending.{Entry}
use Rattle.model_core.specs.Run.Step.{vertex_at, occur}
use Rattle.model_core.specs.Run.Machine.{Note, Goes, Reached}
use Rattle.model_core.specs.Run.History.{Moment, NotesAndNoted, leave, noting_before_event, next_move, start, allowed, reached_from}
use Rattle.model_core.specs.Text.Spellable.{IsSpellable}
use Rattle.model_core.specs.Static.OwnRules.{IsWatchable, KeepsVertex, parameters_of, KeepsParts}
use Rattle.model_core.proofs.EachOne.{every-both, every-map}
use Rattle.model_core.proofs.BothTrue.{and_first, and_second}
use Rattle.run_laws.proofs.InRange.{replicate-get, in_range-kept}
use Rattle.bound_laws.proofs.BeginsInRange.{kept_models_begin_in_range}
use Rattle.run_laws.proofs.Keeping.{occur-keeps, faulted-ok}
use Rattle.run_laws.proofs.MadeEntries.{occur-every}
use Rattle.run_laws.proofs.MappedPending.{next_among-every}
use Rattle.run_laws.proofs.OnTime.{others_later}
use Rattle.model_core.specs.Saved.Cells.{variables_watched}
use Rattle.model_core.specs.Saved.SavedRun.{IsWide, IsGoodEntry}
use Rattle.model_core.proofs.NotEmpty.{has_one-length}
use Rattle.run_snapshot.proofs.CellLists.{each_in_range, watched-in_range}
use Rattle.run_snapshot.proofs.GoodEntries.{ranges-wide, edges-good}
use Rattle.run_laws.proofs.GoingMoves.{move-by, reached-keeps}
use Rattle.run_snapshot.proofs.WideValues.{WideRange, between-wide}
use Rattle.run_snapshot.proofs.TakenWords.{occur-few}

-- a property of a moment after n steps
pub record IsSound (g : EventGraph) (n : ℕ) (m : Moment) : Type 0 where
  pub watch : AllByRecursion (IsWatchable (length g.variables) (length g.vertices)) g.watch
  pub inside : IsTrue (in_range g m.now.state)
  pub streams : length m.now.taken ≡ 64
  pub words : (stream : ℕ) → taken_from m.now.taken stream ≤ 2000 * n
  pub noted : IfSome m.noted (λ values. each_in_range (variables_watched g g.watch) values ≡ true)
  pub pending : AllByRecursion (IsGoodEntry g m.now.clock) m.now.pending

-- an event that isn't earlier than a later clock is good then
later-good : (g : EventGraph) (clock later : ℕ) → clock ≤ later → (e : Entry) → IsGoodEntry g clock e → later ≤ e.time → IsGoodEntry g later e
later-good g clock later goes e good due = record {
  from_now = due;
  near = omega (arith, good.near, goes);
  priority = good.priority;
  vertex = good.vertex;
  matched = good.matched;
  wide = good.wide;
}

-- a vertex has few changes and few edges
few-parts : (g : EventGraph) → KeepsParts g → (k : ℕ) → length (vertex_at g k).changes + length (vertex_at g k).edges ≤ 2000
few-parts g parts k =
    slice_index_or-all (λ (v : EventVertex). length v.changes + length v.edges ≤ 2000) g.vertices _ k (every-map (KeepsVertex g.variables (length g.tables) (parameters_of g)) _ (λ v kept. omega (arith, kept.few_changes, kept.few_edges)) g.vertices parts.vertices) (omega arith)

module _ (g : EventGraph) (parts : KeepsParts g) (spelled : IsSpellable g) (seed until : ℕ) (early : until ≤ 2 ^ 48) where
  left-sound : (m : Moment) (n : ℕ) (time : ℕ) → IsSound g n m → IfSome (noting_before_event g m time).noted (λ values. each_in_range (variables_watched g g.watch) values ≡ true)
  left-sound m n time sound = chosen (nat_lt m.now.clock time) where
    chosen : (b : Bool) → IfSome (let left : NotesAndNoted = cond b (leave g m) (record { notes = []; noted = m.noted }) in left.noted) (λ values. each_in_range (variables_watched g g.watch) values ≡ true)
    chosen true = watched-in_range g m.now.state g.watch sound.inside parts.watch
    chosen false = sound.noted

  step-sound : (n : ℕ) (m later : Moment) (notes : List Note) → IsSound g n m → next_move g seed until m ≡ Goes notes later → IsSound g (suc n) later
  step-sound n m later notes sound goes =
      let (k, by) = move-by g seed until m notes later goes in
      let done : occur g seed (vertex_at g k.entry.vertex) k m.now.state m.now.taken ≡ Ok later.now = faulted-ok k.entry.time _ later.now by.steps in
      let few = occur-few g seed (vertex_at g k.entry.vertex) k m.now.state m.now.taken later.now done in
      let (first, others) = next_among-every (IsGoodEntry g m.now.clock) (λ e. true) m.now.pending sound.pending k by.due in
      let (time, pending) = occur-every (IsGoodEntry g k.entry.time) g seed (λ s. IsTrue (in_range g s)) (in_range-kept g) (vertex_at g k.entry.vertex) k m.now.state m.now.taken later.now sound.inside
      (λ t inside. edges-good g parts spelled seed t k.entry.time (omega (arith, by.soon, early)) inside k.entry.vertex)
      (every-both (IsGoodEntry g m.now.clock) (λ e. k.entry.time ≤ e.time) (IsGoodEntry g k.entry.time) (later-good g m.now.clock k.entry.time first.from_now) k.others others (others_later m.now.pending k by.due))
      done in
      record {
        watch = sound.watch;
        inside = occur-keeps g (λ s. IsTrue (in_range g s)) (in_range-kept g) seed (vertex_at g k.entry.vertex) k m.now.state m.now.taken later.now sound.inside done;
        streams = few.streams ∙ sound.streams;
        words = λ stream. omega (arith, few.few stream, sound.words stream, few-parts g parts k.entry.vertex);
        noted = subst (λ (o : Option (List (List ℤ))). IfSome o (λ values. each_in_range (variables_watched g g.watch) values ≡ true)) (sym by.notes_last) (left-sound m n k.entry.time sound);
        pending = subst (λ (t : ℕ). AllByRecursion (IsGoodEntry g t) later.now.pending) (sym time) pending;
      }

-- ---- as a run begins

-- values in the ranges of variables
each-start : (g : EventGraph) → ((v : ℕ) → WideRange (variable_at g v)) → (ps : List ℕ) (xs : List ℤ) → in_ranges (map (variable_at g) ps) xs ≡ true → AllByRecursion IsWide xs
each-start g wide [] [] e = tt
each-start g wide [] (x ∷ xs) e = cc
each-start g wide (p ∷ ps) [] e = cc
each-start g wide (p ∷ ps) (x ∷ xs) e =
    let v = variable_at g p in
    (between-wide v x (wide p) (and_first (within v.lo v.hi x) _ e), each-start g wide ps xs (and_second (within v.lo v.hi x) _ e))

none-taken : (n k : ℕ) → taken_from (replicate n 0) k ≤ 0
none-taken n k = subst (λ (x : ℕ). x ≤ 0) (sym (replicate-get n k 0)) (omega arith)

pub start-sound : (g : EventGraph) → KeepsParts g → IsSpellable g → (starts : List ℤ) → IsTrue (allowed g starts) → IsSound g 0 (start g starts)
start-sound g parts spelled starts ok = record {
  watch = parts.watch;
  inside = kept_models_begin_in_range g parts;
  streams = length-replicate {A = ℕ} 64 0;
  words = none-taken 64;
  noted = tt;
  pending = (
    record {
      from_now = omega arith;
      near = omega arith;
      priority = omega arith;
      vertex = has_one-length g.vertices spelled.has_vertex;
      matched = sym (pointwise_long (λ (v : Variable) (x : ℤ). within v.lo v.hi x) (map (variable_at g) (vertex_at g 0).parameters) starts ok) ∙ length-map (vertex_at g 0).parameters (variable_at g);
      wide = each-start g (ranges-wide g spelled) (vertex_at g 0).parameters starts ok;
    },
    tt,
  );
}

-- so it holds at each moment
pub moments-sound : (g : EventGraph) → KeepsParts g → IsSpellable g → (seed until n : ℕ) → until ≤ 2 ^ 48 → (starts : List ℤ) → IsTrue (allowed g starts) → (r : Reached Moment) → reached_from g seed until n (start g starts) ≡ Some r → IsSound g n r.moment
moments-sound g parts spelled seed until n early starts ok r there =
    let sound = reached-keeps (next_move g seed until) (IsSound g) (λ k s t notes q goes. step-sound g parts spelled seed until early k s t notes q goes) n 0 (start g starts) r (start-sound g parts spelled starts ok) there in
    let count : n + 0 ≡ n = omega arith in
    subst (λ (k : ℕ). IsSound g k r.moment) count sound
