-- The parts of a snapshot after the clock and the number of events: where those before it are good, its end decides.
use Rattle.std.proofs.Common.{◌≡◌, ℕ, ◌<◌, ◌≤◌, Bool, true, false, not, cond, nat_lt, List, [], ◌∷◌, ◌++◌, length, map, replicate, Option, Some, None, ℤ, ap, ap₂, ◌∙◌, arith}
use Rattle.std.specs.List.{flat_map}
use Rattle.std.specs.Option.{option_map}
use Rattle.std.proofs.lemmas.Bool.Decides.{nat_tests}
use Rattle.model_core.specs.EventGraph.{EventGraph}
use Rattle.model_core.specs.Run.Pending.{Entry}
use Rattle.model_core.specs.Text.SnapshotGrammar.{WrittenSnapshot, WrittenValue, WrittenNoted}
use Rattle.model_core.specs.Saved.SavedRun.{SavedRun}
use Rattle.model_core.specs.Saved.GoodSnapshots.{JudgedPart, first_bad_part, stream_parts, value_parts, noted_parts, pending_part, with_taken, signed_values, saved_entry}
use Rattle.snapshot_text.specs.Inner.Judging.{later_parts, later_saved}
use Rattle.snapshot_text.proofs.JudgedParts.{good_before}

module _ (g : EventGraph) (w : WrittenSnapshot) (streams : first_bad_part (stream_parts 0 w.streams) ≡ None) (values : first_bad_part (value_parts g.variables w.values) ≡ None) (noted : first_bad_part (noted_parts g w.noted) ≡ None) (pending : first_bad_part (map (pending_part g) w.pending) ≡ None) where
  end_decides : (good : Bool) → nat_lt (length w.values) (length g.variables) ≡ good → first_bad_part (later_parts g w) ≡ cond (not good) None (Some w.end_at)
  end_decides good e =
      let last : List JudgedPart = record { good = not (nat_lt (length w.values) (length g.variables)); at = w.end_at } ∷ [] in
      let first = stream_parts 0 w.streams in
      let second = value_parts g.variables w.values in
      let third = noted_parts g w.noted in
      let fourth = map (pending_part g) w.pending in
      let two = good_before first second streams ∙ values in
      let three = good_before (first ++ second) third two ∙ noted in
      let four = good_before (first ++ second ++ third) fourth three ∙ pending in
      good_before (first ++ second ++ third ++ fourth) last four ∙ ap (λ b. cond (not b) None (Some w.end_at)) e

  pub too_few : length w.values < length g.variables → first_bad_part (later_parts g w) ≡ Some w.end_at
  too_few less = let e : nat_lt (length w.values) (length g.variables) ≡ true = grind (arith, nat_tests) in end_decides true e

  pub all_good : length g.variables ≤ length w.values → first_bad_part (later_parts g w) ≡ None
  all_good enough = let e : nat_lt (length w.values) (length g.variables) ≡ false = grind (arith, nat_tests) in end_decides false e

pub saved-is : (g : EventGraph) (w : WrittenSnapshot) (seed clock events : ℕ) (taken : List ℕ) (values : List ℤ) (noted : Option (List ℤ)) (pending : List Entry)
    → taken ≡ with_taken w.streams (replicate 64 0) → values ≡ flat_map (λ (v : WrittenValue). signed_values v.values) w.values → noted ≡ option_map (λ (n : WrittenNoted). signed_values n.values) w.noted → pending ≡ map (saved_entry g clock) w.pending
    → ◌≡◌ {A = SavedRun} (record { seed = seed; clock = clock; events = events; taken = taken; values = values; noted = noted; pending = pending }) (later_saved g w seed clock events)
saved-is g w seed clock events taken values noted pending t v n p =
    ap₂ (λ a b. record { seed = seed; clock = clock; events = events; taken = a; values = b; noted = noted; pending = pending }) t v
    ∙ ap₂ (λ a b. record { seed = seed; clock = clock; events = events; taken = with_taken w.streams (replicate 64 0); values = flat_map (λ (v : WrittenValue). signed_values v.values) w.values; noted = a; pending = b }) n p
