-- The sums of a run that hasn't begun, place by place.
use Rattle.std.proofs.Common.{◌≡◌, ℕ, suc, All, ◌+◌, ◌<◌, List, [], ◌∷◌, ◌++◌, length, map, take, get_or, sym, ap, ◌∙◌, append_assoc, append-nil, arith}
use Rattle.std.proofs.lemmas.List.{length-take, length-map}
use Rattle.std.proofs.lemmas.List.Elements.{All-nil, All-cons, All-append, All-map}
use Rattle.std.proofs.lemmas.Int.{ints}
use Rattle.std.specs.Prelude.{pos}
use Rattle.std.specs.List.{range_with_len}
use Rattle.sig_base.proofs.Lists.{seen_more}
use Rattle.model_core.specs.EventGraph.{EventGraph, Watched, WatchedVariable, WatchedVertex}
use Rattle.model_core.specs.Saved.Cells.{cells_declared}
use Rattle.tally_report.specs.declared.sums.Sum.{Sum}
use Rattle.tally_report.specs.SmallAreas.{IsSmallArea}
use Rattle.tally_report.specs.Inner.Sums.{IsSmall}
use Rattle.tally_report.specs.Inner.Sums.{cell_sum, vertex_sum, sums_at, sums_from}

sums_from-append_one : (g : EventGraph) (k n : ℕ) (xs : List Watched) (y : Watched) → n ≡ k + length xs → sums_from g k (xs ++ y ∷ []) ≡ sums_from g k xs ++ sums_at g n y
sums_from-append_one g k n [] y at = ap (λ p. sums_at g p y ++ []) (let e : k ≡ n = omega (arith, at) in e) ∙ append-nil (sums_at g n y)
sums_from-append_one g k n (x ∷ xs) y at =
    ap (λ later. sums_at g k x ++ later) (sums_from-append_one g (suc k) n xs y (omega (arith, at))) ∙ sym (append_assoc (sums_at g k x) (sums_from g (suc k) xs) (sums_at g n y))

pub sums_more : {X : Type 0} (g : EventGraph) (view : X → Watched) (xs : List X) (i : ℕ) (x : X) → i < length xs → x ≡ get_or xs i x
    → sums_from g 0 (map view (take (i + 1) xs)) ≡ sums_from g 0 (map view (take i xs)) ++ sums_at g i (view x)
sums_more g view xs i x within is =
    let size : i ≡ 0 + length (map view (take i xs)) = omega (arith, length-map (take i xs) view, length-take i xs, within) in
    ap (sums_from g 0) (seen_more view xs i x within is) ∙ sums_from-append_one g 0 i (map view (take i xs)) (view x) size

-- ---- no area is under them

pub no-area : IsSmallArea 0 (pos 0)
no-area = record { above = omega (arith, ints); below = omega (arith, ints) }

cells-small : (place n k : ℕ) → All (λ (s : Sum). IsSmall 0 s.item) (map (cell_sum place) (range_with_len k n))
cells-small place n k = All-map (λ (s : Sum). IsSmall 0 s.item) (cell_sum place) (range_with_len k n) (λ j d within. no-area)

pub first_small : (g : EventGraph) (k : ℕ) (ws : List Watched) → All (λ (s : Sum). IsSmall 0 s.item) (sums_from g k ws)
first_small g k [] = All-nil (λ (s : Sum). IsSmall 0 s.item)
first_small g k (WatchedVariable v ∷ ws) =
    All-append (λ (s : Sum). IsSmall 0 s.item) (sums_at g k (WatchedVariable v)) (sums_from g (suc k) ws) (cells-small k (cells_declared g v) 0) (first_small g (suc k) ws)
first_small g k (WatchedVertex v ∷ ws) = All-cons (λ (s : Sum). IsSmall 0 s.item) (vertex_sum k) (sums_from g (suc k) ws) tt (first_small g (suc k) ws)
