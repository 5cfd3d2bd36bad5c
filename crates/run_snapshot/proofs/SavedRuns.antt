-- A saved moment of a valid model's run is good, and goes on as the moment does.
use Rattle.std.proofs.Common.{◌≡◌, map, ℕ, suc, ◌^◌, ◌<◌, ◌≤◌, ℤ, true, List, [], ◌∷◌, slice_index_or, Option, Some, None, option_map, refl, sym, ap, ◌∙◌, subst, arith, IsTrue, ◌+◌, ◌++◌, append_assoc}
use Rattle.std.specs.Prelude.{IfSome}
use Rattle.std.specs.List.{AllByRecursion, flat_map}
use Rattle.std.proofs.lemmas.List.Concat.{flat_map-append}
use Rattle.model_core.specs.EventGraph.{EventGraph, Variable}
use Rattle.model_core.specs.Run.State.{cell_count, in_ranges}
use Rattle.model_core.specs.Run.Step.{Configuration}
use Rattle.model_core.specs.Run.Machine.{Note, Look, ahead}
use Rattle.model_core.specs.Run.History.{Moment, look, look_from}
use Rattle.model_core.specs.Text.HistoryText.{note_line, end_line, history_text}
use Rattle.model_core.specs.Saved.SavedRun.{IsGoodEntry, IsGood, saved, saved_moment, history_from}
use Rattle.model_core.specs.Saved.GoingOn.{Alike, GoesOn}
use Rattle.model_core.specs.Saved.Resuming.{Resumes}
use Rattle.run_snapshot.proofs.CellLists.{each_in_range, lengths-in_range, in_one_list-in_range, sizes-declared}
use Rattle.model_core.specs.Saved.Cells.{watched_sizes, cut_up, in_one_list, cell_variables, variables_watched}
use Rattle.run_laws.proofs.CutUp.{cut_up-in_one_list}
use Rattle.order_laws.proofs.InDueOrder.{due_order-sorted, due_order-again}
use Rattle.order_laws.proofs.DueSorted.{sorted-every}
use Rattle.run_snapshot.proofs.GoodMoments.{IsSound}

each-count : (xs : List ℕ) (bound : ℕ) → ((k : ℕ) → slice_index_or xs k 0 ≤ bound) → AllByRecursion (λ n. n ≤ bound) xs
each-count [] bound few = tt
each-count (x ∷ xs) bound few = (few 0, each-count xs bound (λ k. few (suc k)))

noted-good : (vs : List Variable) (o : Option (List (List ℤ))) → IfSome o (λ values. each_in_range vs values ≡ true) → IfSome (option_map in_one_list o) (λ values. IsTrue (in_ranges (cell_variables vs) values))
noted-good vs None inside = tt
noted-good vs (Some values) inside = in_one_list-in_range vs values inside

pub saved-good : (g : EventGraph) (seed n : ℕ) (m : Moment) → seed < 2 ^ 64 → n ≤ 2 ^ 40 → m.now.clock ≤ 2 ^ 48 → IsSound g n m → IsGood g (saved seed n m)
saved-good g seed n m small few early sound = record {
  seed = small;
  clock = early;
  events = few;
  streams = sound.streams;
  words = each-count m.now.taken (2 ^ 52) (λ stream. omega (arith, sound.words stream, few));
  values = in_one_list-in_range g.variables m.now.state sound.inside;
  noted = noted-good (variables_watched g g.watch) m.noted sound.noted;
  pending = subst (λ pending. AllByRecursion (IsGoodEntry g m.now.clock) pending) (sym (due_order-sorted m.now.pending)) (sorted-every (IsGoodEntry g m.now.clock) m.now.pending sound.pending);
}

-- notes ahead of a look are its first lines
text-ahead : (g : EventGraph) (until events : ℕ) (notes : List Note) (seen : Look) → history_text g until events (ahead notes seen) ≡ flat_map (note_line g) notes ++ history_text g until events seen
text-ahead g until events notes seen =
    ap (λ lines. lines ++ end_line until events seen.standing) (flat_map-append (note_line g) notes seen.history)
    ∙ append_assoc (flat_map (note_line g) notes) (flat_map (note_line g) seen.history) (end_line until events seen.standing)

state-again : (g : EventGraph) (m : Moment) (n : ℕ) → IsSound g n m → cut_up (map cell_count g.variables) (in_one_list m.now.state) ≡ m.now.state
state-again g m n sound = ap (λ sizes. cut_up sizes (in_one_list m.now.state)) (sym (lengths-in_range g.variables m.now.state sound.inside)) ∙ cut_up-in_one_list m.now.state

noted-again : (vs : List Variable) (sizes : List ℕ) → sizes ≡ map cell_count vs → (o : Option (List (List ℤ))) → IfSome o (λ values. each_in_range vs values ≡ true) → option_map (cut_up sizes) (option_map in_one_list o) ≡ o
noted-again vs sizes e None inside = refl
noted-again vs sizes e (Some values) inside = ap (λ sizes. Some (cut_up sizes (in_one_list values))) (e ∙ sym (lengths-in_range vs values inside)) ∙ ap Some (cut_up-in_one_list values)

module _ (looks_alike : (g : EventGraph) (seed until n : ℕ) (noted : Option (List (List ℤ))) (c d : Configuration) → Alike c d → look_from g seed until n (record { now = c; noted = noted }) ≡ look_from g seed until n (record { now = d; noted = noted })) where
  goes-on-alike : (g : EventGraph) (seed n : ℕ) (m : Moment) → IsSound g n m → (later more : ℕ) → history_from g (saved seed n m) later more ≡ look_from g seed later more m
  goes-on-alike g seed n m sound later more =
      ap (λ noted. look_from g seed later more (record { now = (saved_moment g (saved seed n m)).now; noted = noted })) (noted-again (variables_watched g g.watch) (watched_sizes g g.watch) (sizes-declared g g.watch sound.watch) m.noted sound.noted)
      ∙ looks_alike g seed later more m.noted (saved_moment g (saved seed n m)).now m.now (record {
        clock = refl;
        state = state-again g m n sound;
        taken = refl;
        due = due_order-again m.now.pending;
      })

  pub resumes : (g : EventGraph) (seed : ℕ) (starts : List ℤ) (until n : ℕ) (m : Moment) → seed < 2 ^ 64 → until ≤ 2 ^ 48 → n ≤ 2 ^ 40 → GoesOn g seed starts until n m → IsSound g n m → Resumes g seed starts until n m
  resumes g seed starts until n m small early few goes_on sound =
      let notes = (look g seed starts until n).history in
      let joined_looks : (later more : ℕ) → m.now.clock ≤ later → look g seed starts later (n + more) ≡ ahead notes (history_from g (saved seed n m) later more) =
      λ later more soon. goes_on.whole later more soon ∙ ap (ahead notes) (sym (goes-on-alike g seed n m sound later more)) in
      record {
        good = saved-good g seed n m small few (omega (arith, goes_on.early, early)) sound;
        whole = joined_looks;
        text = λ later more soon. ap (history_text g later more) (joined_looks later more soon) ∙ text-ahead g later more notes (history_from g (saved seed n m) later more);
      }
