-- Reading, writing and adding a piece.
use Rattle.std.proofs.Common.{slice_index_or, slice_set, length-take, ◌≡◌, ℕ, zero, suc, ◌+◌, ◌-◌, ◌<◌, ◌≤◌, List, [], ◌∷◌, ◌++◌, length, get_or, set, take, drop, map, refl, ap, ap₂, sym, ◌∙◌, arith}
use Rattle.std.proofs.lemmas.List.{get_or-map, length-map, drop-set-lt, drop-set-add, take-set-le, drop-append-le, take-append-le, length-drop, length-append, map_push}
use Rattle.std.proofs.Math.Seq.{take-set-lt, drop-append_seam, take-length}
use Rattle.sig_expr.specs.declared.state.Span.{Span}
use Rattle.sig_expr.specs.Inner.Pieces.{piece, pieces, Laid}

pub laid_le : (spans : List Span) (from end : ℕ) → Laid from spans end → from ≤ end
laid_le [] from end h = omega (arith, h)
laid_le (p ∷ ps) from end h = let e = laid_le ps (from + p.size) end h.1 in omega (arith, e)

-- a span lies between the two places
pub record Lies (from end : ℕ) (p : Span) : Type 0 where
  pub low : from ≤ p.from
  pub high : p.from + p.size ≤ end

pub lies : (spans : List Span) (from end v : ℕ) (d : Span) → Laid from spans end → v < length spans → Lies from end (get_or spans v d)
lies [] from end v d h l = absurd (omega (arith, l))
lies (p ∷ ps) from end zero d h l =
    let e = laid_le ps (from + p.size) end h.1 in record { low = omega (arith, h.0); high = omega (arith, e, h.0) }
lies (p ∷ ps) from end (suc v) d h l =
    let n = lies ps (from + p.size) end v d h.1 (omega (arith, l)) in record { low = omega (arith, n.low); high = n.high }

-- a span that was looked up ends by the end of what is laid
pub ends_inside : (spans : List Span) (end v : ℕ) (p d : Span) → Laid 0 spans end → v < length spans → p ≡ slice_index_or spans v d → p.from + p.size ≤ end
ends_inside spans end v p d h below is = rw is (lies spans 0 end v d h below).high

-- a piece after a place does not see what is written before it
pub piece_after : {A : Type 0} (xs : List A) (p : Span) (k : ℕ) (x : A) → k < p.from → piece (set xs k x) p ≡ piece xs p
piece_after xs p k x l = ap (take p.size) (drop-set-lt p.from xs k x l)

pub piece_before : {A : Type 0} (xs : List A) (p : Span) (i : ℕ) (x : A) → p.size ≤ i → piece (set xs (p.from + i) x) p ≡ piece xs p
piece_before xs p i x l = ap (take p.size) (drop-set-add p.from xs i x) ∙ take-set-le p.size (drop p.from xs) i x l

pub piece_at : {A : Type 0} (xs : List A) (p : Span) (i : ℕ) (x : A) → i < p.size → piece (set xs (p.from + i) x) p ≡ set (piece xs p) i x
piece_at xs p i x l = ap (take p.size) (drop-set-add p.from xs i x) ∙ take-set-lt p.size (drop p.from xs) i x l

pub pieces_after : {A : Type 0} (xs : List A) (spans : List Span) (from end k : ℕ) (x : A) → Laid from spans end → k < from → pieces (set xs k x) spans ≡ pieces xs spans
pieces_after xs [] from end k x h l = refl
pieces_after xs (p ∷ ps) from end k x h l =
    let e = piece_after xs p k x (omega (arith, h.0)) in
    let es = pieces_after xs ps (from + p.size) end k x h.1 (omega arith) in
    cc

pub pieces_set : {A : Type 0} (xs : List A) (spans : List Span) (from end v i : ℕ) (x : A) (d : Span) → Laid from spans end → v < length spans → i < (get_or spans v d).size
    → pieces (set xs ((get_or spans v d).from + i) x) spans ≡ set (pieces xs spans) v (set (piece xs (get_or spans v d)) i x)
pieces_set xs [] from end v i x d h l m = absurd (omega (arith, l))
pieces_set xs (p ∷ ps) from end zero i x d h l m =
    let e = piece_at xs p i x m in
    let es = pieces_after xs ps (from + p.size) end (p.from + i) x h.1 (omega (arith, h.0)) in
    cc
pieces_set xs (p ∷ ps) from end (suc v) i x d h l m =
    let q = get_or ps v d in
    let n = lies ps (from + p.size) end v d h.1 (omega (arith, l)) in
    let same : p.from + ((q.from + i) - p.from) ≡ q.from + i = omega (arith, h.0, n.low) in
    let e = piece_before xs p ((q.from + i) - p.from) x (omega (arith, h.0, n.low)) in
    let e2 : piece (set xs (q.from + i) x) p ≡ piece xs p = ap (λ (k : ℕ). piece (set xs k x) p) (sym same) ∙ e in
    let es = pieces_set xs ps (from + p.size) end v i x d h.1 (omega (arith, l)) m in
    cc

-- Writing a cell that exists, where p is the span of its variable.
pub written : {A : Type 0} (xs : List A) (spans : List Span) (v i : ℕ) (x : A) (p : Span) → Laid 0 spans (length xs) → p ≡ slice_index_or spans v p → v < length (pieces xs spans) → i < length (slice_index_or (pieces xs spans) v [])
    → pieces (slice_set xs (p.from + i) x) spans ≡ slice_set (pieces xs spans) v (slice_set (slice_index_or (pieces xs spans) v []) i x)
written {A} xs spans v i x p h e l m =
    let within : v < length spans = omega (arith, length-map spans (piece xs)) in
    let cells : get_or (pieces xs spans) v [] ≡ piece xs (get_or spans v p) = get_or-map (piece xs) spans v p [] within in
    let m2 : i < length (piece xs (get_or spans v p)) = rw (← cells) m in
    let size : i < (get_or spans v p).size = omega (arith, length-take {A = A} (get_or spans v p).size (drop (get_or spans v p).from xs)) in
    let w = pieces_set xs spans 0 (length xs) v i x p h within size in
    ap (λ (q : Span). pieces (set xs (q.from + i) x) spans) e ∙ w ∙ ap (λ (ys : List A). set (pieces xs spans) v (set ys i x)) (sym cells)

-- ---- a piece more at the end

piece_front : {A : Type 0} (xs ys : List A) (p : Span) (end : ℕ) → p.from + p.size ≤ end → end ≤ length xs → piece (xs ++ ys) p ≡ piece xs p
piece_front xs ys p end l m =
    ap (take p.size) (drop-append-le p.from xs ys (omega (arith, l, m)))
    ∙ take-append-le p.size (drop p.from xs) ys (omega (arith, l, m, length-drop p.from xs))

pieces_front : {A : Type 0} (xs ys : List A) (spans : List Span) (from end : ℕ) → Laid from spans end → end ≤ length xs → pieces (xs ++ ys) spans ≡ pieces xs spans
pieces_front xs ys [] from end h m = refl
pieces_front xs ys (p ∷ ps) from end h m =
    let e = laid_le ps (from + p.size) end h.1 in
    ap₂ (λ q qs. q ∷ qs) (piece_front xs ys p end (omega (arith, e, h.0)) m) (pieces_front xs ys ps (from + p.size) end h.1 m)

laid_more : (spans : List Span) (p : Span) (from mid end : ℕ) → Laid from spans mid → p.from ≡ mid → mid + p.size ≡ end → Laid from (spans ++ p ∷ []) end
laid_more [] p from mid end h e f = (omega (arith, e, h), omega (arith, f, h))
laid_more (q ∷ ps) p from mid end h e f = (h.0, laid_more ps p (from + q.size) mid end h.1 e f)

piece_new : {A : Type 0} (xs ys : List A) (p : Span) → p.from ≡ length xs → p.size ≡ length ys → piece (xs ++ ys) p ≡ ys
piece_new xs ys p e f = rw (e, f) (ap (take (length ys)) (drop-append_seam xs ys) ∙ take-length ys)

-- where a loop has cut the cells of so many variables
pub record CutSoFar {V A : Type 0} (cells_for : V → List A) (vs : List V) (xs : List A) (spans : List Span) : Type 0 where
  pub cut : pieces xs spans ≡ map cells_for vs
  pub laid : Laid 0 spans (length xs)

pub cut_more : {V A : Type 0} (cells_for : V → List A) (vs more : List V) (v : V) (xs ys new : List A) (spans spans_new : List Span) (p : Span)
    → more ≡ vs ++ v ∷ [] → new ≡ xs ++ ys → spans_new ≡ spans ++ p ∷ [] → ys ≡ cells_for v → p.from ≡ length xs → p.size ≡ length ys
    → CutSoFar cells_for vs xs spans → CutSoFar cells_for more new spans_new
cut_more cells_for vs more v xs ys new spans spans_new p is added pushed for_v from size h = rw (is, added, pushed) (record {
  cut = map_push (piece (xs ++ ys)) spans p
      ∙ ap₂ (λ qs q. qs ++ q ∷ []) (pieces_front xs ys spans 0 (length xs) h.laid (omega arith) ∙ h.cut) (piece_new xs ys p from size ∙ for_v)
      ∙ sym (map_push cells_for vs v);
  laid = laid_more spans p 0 (length xs) (length (xs ++ ys)) h.laid from (omega (arith, size, length-append xs ys));
})
