-- The lines of a snapshot, one after the other, as the code that prints them goes on.
use Rattle.std.proofs.Common.{◌≡◌, ℕ, ◌+◌, ◌-◌, ◌/◌, ◌%◌, ◌^◌, min, ℤ, List, ◌∷◌, ◌++◌, length, take, drop, refl, sym, ap, ap₂, ◌∙◌, append_assoc}
use Rattle.std.specs.Prelude.{codes, decimal}
use Rattle.std.proofs.lemmas.List.{take_min, drop_min, drop-drop, length-drop}
use Rattle.model_core.specs.EventGraph.{EventGraph, Variable}
use Rattle.model_core.specs.Run.State.{cell_count}
use Rattle.model_core.specs.Saved.SavedRun.{SavedRun}
use Rattle.model_core.specs.Text.SnapshotText.{value_lines, snapshot_text}
use Rattle.snapshot_text.specs.Inner.Lines.{value_line, seed_lines, clock_lines, last_lines}

-- the pieces of a line, one after the other, are the line
pub seed-pieces : (out : List ℕ) (high low : ℕ) → ((((out ++ codes "snapshot\nseed ") ++ decimal high) ++ codes " ") ++ decimal low) ++ codes "\n" ≡ out ++ seed_lines high low
seed-pieces out high low = simp (append_assoc) refl

-- the line of one variable more
pub one_value_more : (out new : List ℕ) (v : Variable) (vs : List Variable) (values : List ℤ) (from n : ℕ) (total : List ℕ) → n ≡ min (cell_count v) (length values - from)
    → new ≡ out ++ value_line v (take n (drop from values)) → out ++ value_lines (v ∷ vs) (drop from values) ≡ total → new ++ value_lines vs (drop (from + n) values) ≡ total
one_value_more out new v vs values from n total count put so_far =
    let xs = drop from values in
    let all : n ≡ min (cell_count v) (length xs) = count ∙ ap (min (cell_count v)) (sym (length-drop from values)) in
    let mine : take n xs ≡ take (cell_count v) xs = ap (λ k. take k xs) all ∙ take_min (cell_count v) xs in
    let others : drop (from + n) values ≡ drop (cell_count v) xs = sym (drop-drop n from values) ∙ ap (λ k. drop k xs) all ∙ drop_min (cell_count v) xs in
    ap₂ (λ a b. a ++ value_lines vs b) (put ∙ ap (λ l. out ++ value_line v l) mine) others
    ∙ append_assoc out (value_line v (take (cell_count v) xs)) (value_lines vs (drop (cell_count v) xs)) ∙ so_far

-- the line of the seed, those of the clock and the events, and the others are the whole text
pub whole-text : (g : EventGraph) (s : SavedRun) (out : List ℕ) → ((out ++ seed_lines (s.seed / 2 ^ 32) (s.seed % 2 ^ 32)) ++ clock_lines s.clock s.events) ++ last_lines g s ≡ out ++ snapshot_text g s
whole-text g s out = simp (append_assoc) refl
