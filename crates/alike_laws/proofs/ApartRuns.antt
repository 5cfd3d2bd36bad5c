-- A later look at a run shows what an earlier one shows, and a run has one finished look: so models with looks apart aren't alike.
use Rattle.std.proofs.Common.{◌≡◌, ◌⊎◌, inl, inr, ℕ, zero, suc, ◌<◌, ◌≤◌, ◌^◌, ℤ, IsTrue, List, [], ◌∷◌, ◌++◌, append_assoc, refl, sym, ◌∙◌, ap, arith}
use Rattle.std.proofs.lemmas.List.{append-nil}
use Rattle.std.proofs.lemmas.Bool.{cases_lt}
use Rattle.model_core.specs.EventGraph.{EventGraph}
use Rattle.model_core.specs.Run.Machine.{Note, Look, finished, Move, Rests, Fails, Goes, before, ahead, after, look_of}
use Rattle.model_core.specs.Run.History.{next_move, start, allowed, look}
use Rattle.model_core.specs.Run.Same.{Begins}
use Rattle.alike_laws.specs.AreAlike.{ShownBy, AreAlike}
use Rattle.alike_laws.specs.LooksApart.{LooksApart, OtherEnds, FirstOver, SecondOver, OtherNotes}
use Rattle.alike_laws.proofs.AlikeModels.{begins_further, finished_too}

-- ---- two lists that begin one list

begins_both_with : {A : Type 0} (x y : A) (xs ys : List A) → x ≡ y → Begins xs ys → Begins (x ∷ xs) (y ∷ ys)
begins_both_with x y xs ys e (rest, begins) = (rest, ap (λ l. x ∷ l) begins ∙ ap (λ z. z ∷ ys) e)

begins_tail : {A : Type 0} (x z : A) (xs whole : List A) → Begins (x ∷ xs) (z ∷ whole) → (x ≡ z) × Begins xs whole
begins_tail x z xs whole (rest, e) = (cc, (rest, cc))

one_begins : {A : Type 0} (xs ys whole : List A) → Begins xs whole → Begins ys whole → Begins xs ys ⊎ Begins ys xs
one_begins [] ys whole p q = inl (ys, refl)
one_begins (x ∷ xs) [] whole p q = inr (x ∷ xs, refl)
one_begins (x ∷ xs) (y ∷ ys) [] (rest, e) q = absurd cc
one_begins (x ∷ xs) (y ∷ ys) (z ∷ whole) p q =
    let (ex, first) = begins_tail x z xs whole p in
    let (ey, second) = begins_tail y z ys whole q in
    let same : x ≡ y = ex ∙ sym ey in
    by same (one_begins xs ys whole first second) where
      by : x ≡ y → Begins xs ys ⊎ Begins ys xs → Begins (x ∷ xs) (y ∷ ys) ⊎ Begins (y ∷ ys) (x ∷ xs)
      by same (inl b) = inl (begins_both_with x y xs ys same b)
      by same (inr b) = inr (begins_both_with y x ys xs (sym same) b)

-- ---- later looks

begins_ahead : {A : Type 0} (notes xs ys : List A) → Begins xs ys → Begins (notes ++ xs) (notes ++ ys)
begins_ahead notes xs ys (rest, e) = (rest, append_assoc notes xs rest ∙ ap (λ l. notes ++ l) e)

-- what was seen before a move is seen after it, and after an end nothing comes
record Later (a b : Look) : Type 0 where
  same : IsTrue (finished a.standing) → b ≡ a
  shown : Begins a.history b.history

no_later : (a : Look) → Later a a
no_later a = record { same = λ fin. refl; shown = ([], append-nil a.history) }

later_ahead : (notes : List Note) (a b : Look) → Later a b → Later (ahead notes a) (ahead notes b)
later_ahead notes a b l = record { same = λ fin. ap (ahead notes) (l.same fin); shown = begins_ahead notes a.history b.history l.shown }

before_after : {S : Type 0} (later : S → Look) (move : Move S) → Later (before move) (after later move)
before_after later (Rests notes end) = no_later (record { history = notes; standing = end })
before_after later (Fails notes end) = record { same = λ fin. absurd cc; shown = (notes, refl) }
before_after later (Goes notes s) = record { same = λ fin. absurd cc; shown = (notes ++ (later s).history, refl) }

after_both : {S : Type 0} (one other : S → Look) (move : Move S) → ((s : S) → Later (one s) (other s)) → Later (after one move) (after other move)
after_both one other (Rests notes end) later = no_later (record { history = notes; standing = end })
after_both one other (Fails notes end) later = no_later (record { history = notes; standing = end })
after_both one other (Goes notes s) later = later_ahead notes (one s) (other s) (later s)

looks_grow : {S : Type 0} (f : S → Move S) (n k : ℕ) (s : S) → n ≤ k → Later (look_of f n s) (look_of f k s)
looks_grow f zero zero s le = no_later (look_of f zero s)
looks_grow f zero (suc k) s le = before_after (look_of f k) (f s)
looks_grow f (suc n) zero s le = absurd (omega arith)
looks_grow f (suc n) (suc k) s le = after_both (look_of f n) (look_of f k) (f s) (λ t. looks_grow f n k t (omega arith))

either_later : {S : Type 0} (f : S → Move S) (n k : ℕ) (s : S) → Later (look_of f n s) (look_of f k s) ⊎ Later (look_of f k s) (look_of f n s)
either_later f n k s = elim (cases_lt k n) [ inl less ↦ inr (looks_grow f k n s (omega arith)) | inr more ↦ inl (looks_grow f n k s more) ]

-- ---- two models

-- what one machine has shown begins with what the other has shown, if that one is finished or has shown less
finished_shows_all : {S : Type 0} (f : S → Move S) (n m : ℕ) (s : S) → IsTrue (finished (look_of f n s).standing) → Begins (look_of f m s).history (look_of f n s).history
finished_shows_all f n m s fin = by (either_later f n m s) where
  by : Later (look_of f n s) (look_of f m s) ⊎ Later (look_of f m s) (look_of f n s) → Begins (look_of f m s).history (look_of f n s).history
  by (inl later) = ([], append-nil (look_of f m s).history ∙ ap (λ (l : Look). l.history) (later.same fin))
  by (inr later) = later.shown

one_end : {S : Type 0} (f : S → Move S) (n m : ℕ) (s : S) → IsTrue (finished (look_of f n s).standing) → IsTrue (finished (look_of f m s).standing) → look_of f n s ≡ look_of f m s
one_end f n m s fin fin_too = by (either_later f n m s) where
  by : Later (look_of f n s) (look_of f m s) ⊎ Later (look_of f m s) (look_of f n s) → look_of f n s ≡ look_of f m s
  by (inl later) = sym (later.same fin)
  by (inr later) = later.same fin_too

-- a look of one machine that another machine shows begins what the other has shown, or goes on from it
shown_together : {S : Type 0} (f : S → Move S) (n m : ℕ) (s : S) (notes : List Note) → Begins notes (look_of f m s).history → Begins (look_of f n s).history notes ⊎ Begins notes (look_of f n s).history
shown_together f n m s notes begins = by (either_later f n m s) where
  by : Later (look_of f n s) (look_of f m s) ⊎ Later (look_of f m s) (look_of f n s) → Begins (look_of f n s).history notes ⊎ Begins notes (look_of f n s).history
  by (inl later) = one_begins (look_of f n s).history notes (look_of f m s).history later.shown begins
  by (inr later) = inr (begins_further notes (look_of f m s).history (look_of f n s).history begins later.shown)

-- a machine that shows what another one does has no look apart from one of that
not_apart : {S T : Type 0} (f : S → Move S) (g : T → Move T) (s : S) (t : T) → ShownBy (λ n. look_of f n s) (λ n. look_of g n t) → ShownBy (λ n. look_of g n t) (λ n. look_of f n s) → (n k : ℕ) → LooksApart (look_of f n s) (look_of g k t) → ⊥
not_apart f g s t forth back n k (OtherEnds fin fin_too differ) =
    let (m, e) = forth.finishes n fin in
    differ (sym e ∙ one_end g m k t (finished_too e fin) fin_too)
not_apart f g s t forth back n k (FirstOver fin going missing) =
    let (m, begins) = back.shows k in
    missing (begins_further (look_of g k t).history (look_of f m s).history (look_of f n s).history begins (finished_shows_all f n m s fin))
not_apart f g s t forth back n k (SecondOver going fin missing) =
    let (m, begins) = forth.shows n in
    missing (begins_further (look_of f n s).history (look_of g m t).history (look_of g k t).history begins (finished_shows_all g k m t fin))
not_apart f g s t forth back n k (OtherNotes going going_too missing missing_too) =
    let (m, begins) = back.shows k in
    elim (shown_together f n m s (look_of g k t).history begins) [ inl first ↦ missing first | inr second ↦ missing_too second ]

pub apart_not_alike : (g h : EventGraph) (seed : ℕ) → seed < 2 ^ 64 → (starts : List ℤ) → IsTrue (allowed g starts) → (until : ℕ) → until ≤ 2 ^ 48 → (n k : ℕ) → LooksApart (look g seed starts until n) (look h seed starts until k) → ¬ AreAlike g h
apart_not_alike g h seed fits starts ok until early n k apart alike =
    let runs = alike.runs seed fits starts ok until early in
    not_apart (next_move g seed until) (next_move h seed until) (start g starts) (start h starts) runs.forth runs.back n k apart
