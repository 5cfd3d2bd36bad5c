-- Rows of a table, and the sums of their weights.
use Rattle.std.proofs.Common.{◌≡◌, ℕ, ◌+◌, ◌*◌, ℤ, pos, negsuc, neg_ℤ, arith, ◌+ℤ◌, ◌≤ℤ◌, List, [], ◌∷◌, ◌++◌, Option, refl, sym, ap, ◌∙◌, append_assoc}
use Rattle.std.proofs.lemmas.Int.{ints}
use Rattle.model_core.specs.EventGraph.{Weighted}
use Rattle.model_core.specs.Text.Written.{WrittenRow}
use Rattle.model_core.specs.Text.Numbering.{each_numbered, row}
use Rattle.model_core.specs.Static.FaultOrder.{StaticFault}
use Rattle.model_core.specs.Static.RuleTable.{certain_value, literal_too_large, number_too_large, weight_outside}
use Rattle.model_core.specs.Static.PartFaults.{rows_faults}
use Rattle.static_laws.specs.Checked.{CheckedPlain}
use Rattle.static_laws.proofs.Checks.{both, made}
use Rattle.std.proofs.lemmas.List.{append-nil}
use Rattle.static_laws.proofs.ListChecks.{one_numbered_more}

-- the sum of the weights of rows, and of others before them
abbrev pub weights_sum : ℤ → List WrittenRow → ℤ
weights_sum before [] = before
weights_sum before (r ∷ rs) = weights_sum (before +ℤ certain_value r.weight) rs

weights_sum-push : (before : ℤ) (rs : List WrittenRow) (r : WrittenRow) → weights_sum before (rs ++ r ∷ []) ≡ weights_sum before rs +ℤ certain_value r.weight
weights_sum-push before [] r = refl
weights_sum-push before (q ∷ rs) r = weights_sum-push (before +ℤ certain_value q.weight) rs r

abbrev row_faults : ℤ → WrittenRow → List StaticFault
row_faults before r = literal_too_large r.value ++ number_too_large r.weight ++ weight_outside before r.weight

rows_faults-push : (before : ℤ) (rs : List WrittenRow) (r : WrittenRow) → rows_faults before (rs ++ r ∷ []) ≡ rows_faults before rs ++ row_faults (weights_sum before rs) r
rows_faults-push before [] r = append-nil (row_faults before r)
rows_faults-push before (q ∷ rs) r =
    ap (λ fs. row_faults before q ++ fs) (rows_faults-push (before +ℤ certain_value q.weight) rs r)
    ∙ sym (append_assoc (row_faults before q) (rows_faults (before +ℤ certain_value q.weight) rs) (row_faults (weights_sum (before +ℤ certain_value q.weight) rs) r))

-- a turn of a loop that checks rows
pub row_turn : (t0 t1 t2 : Option StaticFault) (seen more : List WrittenRow) (r : WrittenRow) (sum : ℤ) (ys after : List Weighted) (y : Weighted)
    → more ≡ seen ++ r ∷ [] → sum ≡ weights_sum (pos 0) seen → after ≡ ys ++ y ∷ []
    → CheckedPlain t0 t1 (rows_faults (pos 0) seen) (each_numbered row seen) ys → CheckedPlain t1 t2 (row_faults sum r) (row r) y
    → CheckedPlain t0 t2 (rows_faults (pos 0) more) (each_numbered row more) after
row_turn t0 t1 t2 seen more r sum ys after y is so_far put c d =
    let d2 : CheckedPlain t1 t2 (row_faults (weights_sum (pos 0) seen) r) (row r) y = rw (← so_far) d in
    rw (is, rows_faults-push (pos 0) seen r, put) (made (λ h. one_numbered_more row seen r ys y h.0 h.1) (both c d2))

pub sum_turn : (seen more : List WrittenRow) (r : WrittenRow) (sum next : ℤ) → more ≡ seen ++ r ∷ [] → sum ≡ weights_sum (pos 0) seen → next ≡ sum +ℤ certain_value r.weight → next ≡ weights_sum (pos 0) more
sum_turn seen more r sum next is so_far step = step ∙ ap (λ s. s +ℤ certain_value r.weight) so_far ∙ sym (weights_sum-push (pos 0) seen r) ∙ ap (weights_sum (pos 0)) (sym is)

-- each weight is at most 2^63
pub low_turn : (i : ℕ) (sum next : ℤ) → neg_ℤ (pos (i * 9223372036854775808)) ≤ℤ sum → (sum +ℤ negsuc 9223372036854775807) ≤ℤ next → neg_ℤ (pos ((i + 1) * 9223372036854775808)) ≤ℤ next
low_turn i sum next l h = omega (arith, ints)

pub high_turn : (i : ℕ) (sum next : ℤ) → sum ≤ℤ pos (i * 9223372036854775808) → next ≤ℤ (sum +ℤ pos 9223372036854775808) → next ≤ℤ pos ((i + 1) * 9223372036854775808)
high_turn i sum next l h = omega (arith, ints)
