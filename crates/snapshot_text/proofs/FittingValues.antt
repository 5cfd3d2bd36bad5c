-- Values fit the cells of a variable where there are as many, and each is known and in its range.
use Rattle.std.proofs.Common.{◌≡◌, ℕ, ◌≤◌, drop, ◌++◌, zero, suc, Bool, true, false, not, ◌&&◌, nat_lt, map, take, ℤ, pos, List, [], ◌∷◌, length, replicate, unwrap_or, Some, None, ◌+◌, ◌-◌, refl, sym, ap, ap₂, subst, ◌∙◌, arith, append_assoc}
use Rattle.std.specs.List.{list_all}
use Rattle.std.specs.Option.{is_some}
use Rattle.std.proofs.lemmas.Bool.Decides.{nat_tests}
use Rattle.std.proofs.lemmas.List.{length-map, length-drop, take-map, drop-map, drop-drop, append-nil}
use Rattle.std.proofs.lemmas.Bool.{le-ltb}
use lib.Pointwise.{bytes_decides}
use Rattle.model_core.specs.declared.raw.RawSigned.{RawSigned}
use Rattle.model_core.specs.Code.WrittenViews.{written_signed}
use Rattle.model_core.specs.EventGraph.{EventGraph, Variable, Watched, WatchedVariable, WatchedVertex}
use Rattle.model_core.specs.Run.State.{variable_at, cell_count, within, in_ranges}
use Rattle.model_core.specs.Text.Written.{WrittenSigned}
use Rattle.model_core.specs.Text.Numbering as numbering
use Rattle.model_core.specs.Text.SnapshotGrammar.{WrittenValue}
use Rattle.model_core.specs.Saved.Cells.{cell_variables, variables_watched}
use Rattle.model_core.specs.Saved.GoodSnapshots.{all_known, signed_values, fit_variables}
use Rattle.snapshot_text.specs.Inner.Judging.{if_good, fits_between, value_good, cells_good, watched_good, watched_cells}
use Rattle.snapshot_text.proofs.JudgedParts.{if_good-some, if_good-none}

shuffled : (a k b r : Bool) → ((a && k) && (b && r)) ≡ ((a && b) && (k && r))
shuffled true true b r = refl
shuffled true false true r = refl
shuffled true false false r = refl
shuffled false k b r = refl

pub fit-each : (v : Variable) (n : ℕ) (ws : List WrittenSigned) → length ws ≡ n → fit_variables (replicate n v) ws ≡ list_all (fits_between v.lo v.hi) ws
fit-each v zero [] long = refl
fit-each v (suc n) [] long = absurd (omega (arith, long))
fit-each v zero (s ∷ ws) long = absurd (omega (arith, long))
fit-each v (suc n) (s ∷ ws) long =
    shuffled (is_some (numbering.signed s)) (all_known ws) (within v.lo v.hi (unwrap_or (numbering.signed s) (pos 0))) (in_ranges (replicate n v) (signed_values ws))
    ∙ ap (λ b. fits_between v.lo v.hi s && b) (fit-each v n ws (omega (arith, long)))

-- so it is where the name is the variable's
pub same_so_far : (v : Variable) (w : WrittenValue) → w.variable.name ≡ v.name → length w.values ≡ cell_count v → list_all (fits_between v.lo v.hi) w.values ≡ value_good v w
same_so_far v w named count = sym (ap₂ (λ a b. a && b) ((bytes_decides w.variable.name v.name).1 named) (fit-each v (cell_count v) w.values count))

-- the cells of a variable are good where the first of the values from a place on fit
pub cells-good : (v : Variable) (values : List RawSigned) (from : ℕ) (b : Bool) (lo hi : ℤ) (n : ℕ) → n ≡ cell_count v → lo ≡ v.lo → hi ≡ v.hi → n ≤ length values - from
    → b ≡ list_all (fits_between lo hi) (map written_signed (take ((from + n) - from) (drop from values))) → b ≡ cells_good v (map written_signed (drop from values))
cells-good v values from b lo hi n count low high some is =
    let raws = drop from values in
    let span : (from + n) - from ≡ cell_count v = omega (arith, count) in
    let enough : nat_lt (length (map written_signed raws)) (cell_count v) ≡ false = le-ltb (length (map written_signed raws)) (cell_count v) (omega (arith, length-map raws written_signed, length-drop from values, count)) in
    is
    ∙ ap₂ (λ (x y : ℤ). list_all (fits_between x y) (map written_signed (take ((from + n) - from) raws))) low high
    ∙ ap (λ (k : ℕ). list_all (fits_between v.lo v.hi) (map written_signed (take k raws))) span
    ∙ ap (list_all (fits_between v.lo v.hi)) (sym (take-map written_signed (cell_count v) raws))
    ∙ ap (λ e. not e && list_all (fits_between v.lo v.hi) (take (cell_count v) (map written_signed raws))) (sym enough)

-- ---- the cells of one variable, and then those of others

regrouped : (f e l r : Bool) → (f && ((e && l) && r)) ≡ ((e && (f && l)) && r)
regrouped true e l r = refl
regrouped false true l r = refl
regrouped false false l r = refl

none_less : (i : ℕ) → not (nat_lt i 0) ≡ true
none_less i = let no : nat_lt i 0 ≡ false = grind (arith, nat_tests) in ap not no

one_less : (i j : ℕ) → nat_lt (suc i) (suc j) ≡ nat_lt i j
one_less i j = grind (arith, nat_tests)

some_more : (n : ℕ) → nat_lt 0 (suc n) ≡ true
some_more n = grind (arith, nat_tests)

split-fit : (v : Variable) (n : ℕ) (vs : List Variable) (ws : List WrittenSigned)
    → fit_variables (replicate n v ++ vs) ws ≡ ((not (nat_lt (length ws) n) && list_all (fits_between v.lo v.hi) (take n ws)) && fit_variables vs (drop n ws))
split-fit v zero vs ws = ap (λ e. (e && true) && fit_variables vs ws) (sym (none_less (length ws)))
split-fit v (suc n) vs [] = sym (ap (λ e. (not e && true) && fit_variables vs []) (some_more n))
split-fit v (suc n) vs (s ∷ ws) =
    shuffled (is_some (numbering.signed s)) (all_known ws) (within v.lo v.hi (unwrap_or (numbering.signed s) (pos 0))) (in_ranges (replicate n v ++ vs) (signed_values ws))
    ∙ ap (λ b. fits_between v.lo v.hi s && b) (split-fit v n vs ws)
    ∙ regrouped (fits_between v.lo v.hi s) (not (nat_lt (length ws) n)) (list_all (fits_between v.lo v.hi) (take n ws)) (fit_variables vs (drop n ws))
    ∙ ap (λ e. (not e && (fits_between v.lo v.hi s && list_all (fits_between v.lo v.hi) (take n ws))) && fit_variables vs (drop n ws)) (sym (one_less (length ws) n))

pub fit-cells : (v : Variable) (vs : List Variable) (ws : List WrittenSigned) → fit_variables (cell_variables (v ∷ vs)) ws ≡ (cells_good v ws && fit_variables (cell_variables vs) (drop (cell_count v) ws))
fit-cells v vs ws = split-fit v (cell_count v) (cell_variables vs) ws

in-two : (n : ℕ) (xs : List RawSigned) → signed_values (map written_signed (take n xs)) ++ signed_values (map written_signed (drop n xs)) ≡ signed_values (map written_signed xs)
in-two zero xs = refl
in-two (suc n) [] = refl
in-two (suc n) (x ∷ xs) = ap (λ l. unwrap_or (numbering.signed (written_signed x)) (pos 0) ∷ l) (in-two n xs)

-- ---- what is watched

module _ (g : EventGraph) (raws : List RawSigned) (from next : ℕ) (out new : List ℤ) (later : List Watched) (total : Bool) (all : List ℤ) where
  abbrev here : List WrittenSigned
  here = map written_signed (drop from raws)

  abbrev Fits : List Watched → ℕ → Type 0
  Fits watch at = fit_variables (cell_variables (variables_watched g watch)) (map written_signed (drop at raws)) ≡ total

  abbrev Adds : List ℤ → ℕ → Type 0
  Adds front at = front ++ signed_values (map written_signed (drop at raws)) ≡ all

  pub one_watched_more : (w : Watched) → Some next ≡ if_good (watched_good g w here) (from + watched_cells g w) → new ≡ out ++ signed_values (map written_signed (take (watched_cells g w) (drop from raws))) → Fits (w ∷ later) from → Adds out from → Fits later next × Adds new next
  one_watched_more (WatchedVariable v) is put fit add =
      let x = variable_at g v in
      let n = cell_count x in
      let vs = variables_watched g later in
      let k = if_good-some (cells_good x here) (from + n) next is in
      let rest : drop n (drop from raws) ≡ drop next raws = drop-drop n from raws ∙ ap (λ i. drop i raws) (sym k.1) in (
        ap (λ l. fit_variables (cell_variables vs) (map written_signed l)) (sym rest) ∙ ap (fit_variables (cell_variables vs)) (sym (drop-map written_signed n (drop from raws)))
            ∙ ap (λ b. b && fit_variables (cell_variables vs) (drop n here)) (sym k.0) ∙ sym (fit-cells x vs here) ∙ fit,
        ap₂ (λ a l. a ++ signed_values (map written_signed l)) put (sym rest)
            ∙ append_assoc out (signed_values (map written_signed (take n (drop from raws)))) (signed_values (map written_signed (drop n (drop from raws)))) ∙ ap (λ l. out ++ l) (in-two n (drop from raws)) ∙ add,
      )
  one_watched_more (WatchedVertex v) is put fit add =
      let k = if_good-some true (from + 0) next is in
      let stays : from ≡ next = omega (arith, k.1) in (
        subst (λ (i : ℕ). Fits later i) stays fit,
        ap (λ (l : List ℤ). l ++ signed_values (map written_signed (drop next raws))) (put ∙ append-nil out) ∙ subst (λ (i : ℕ). Adds out i) stays add,
      )

  pub watched_bad : (w : Watched) → None ≡ if_good (watched_good g w here) (from + watched_cells g w) → Fits (w ∷ later) from → total ≡ false
  watched_bad (WatchedVariable v) is fit =
      let x = variable_at g v in
      let k = if_good-none (cells_good x here) (from + cell_count x) is in
      sym fit ∙ fit-cells x (variables_watched g later) here ∙ ap (λ b. b && fit_variables (cell_variables (variables_watched g later)) (drop (cell_count x) here)) k
  watched_bad (WatchedVertex v) is fit = absurd cc
