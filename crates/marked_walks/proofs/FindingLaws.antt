-- What finding adds, and that where none waits exactly what is entailed is found.
use Rattle.std.proofs.Common.{◌≡◌, ◌⊎◌, inl, inr, ℕ, zero, suc, ◌+◌, ◌<◌, Bool, true, false, cond, List, [], ◌∷◌, ◌++◌, length, drop, replicate, slice_set, Contains, refl, sym, ap, subst, arith, add-one, ◌∙◌}
use Rattle.std.proofs.lemmas.List.{length-append, length-set, length-replicate}
use Rattle.model_core.specs.Rules.Entailed.{entailed_marks}
use Rattle.model_core.specs.Rules.LeastRelations.{Entailed, from_first, over_pair}
use Rattle.mark_laws.proofs.Marks.{Marked}
use Rattle.model_core.proofs.Among.{Among, among-contained, contained-among, among-front, among-back, among-either}
use Rattle.mark_laws.proofs.MarksBelow.{marked-within}
use Rattle.mark_laws.proofs.EntailedMarks.{closed-entailed_marks}
use Rattle.mark_laws.specs.PlacePairs.{successors_of, pairs_from}
use Rattle.mark_laws.proofs.PairsOfSuccessors.{successors-pairs, pairs-successors}
use Rattle.marked_walks.specs.Inner.Finding.{Found, is_unfound, find_one, find_all, find_nth, IsFollowed, Going}

-- ---- one mark more

set-marks : (marks : List Bool) (k : ℕ) → k < length marks → Marked (slice_set marks k true) k
set-marks [] k below = absurd (omega arith)
set-marks (b ∷ bs) zero below = refl
set-marks (b ∷ bs) (suc k) below = set-marks bs k (omega arith)

set-keeps : (marks : List Bool) (k j : ℕ) → Marked marks j → Marked (slice_set marks k true) j
set-keeps [] k j marked = marked
set-keeps (b ∷ bs) zero zero marked = refl
set-keeps (b ∷ bs) zero (suc j) marked = marked
set-keeps (b ∷ bs) (suc k) zero marked = marked
set-keeps (b ∷ bs) (suc k) (suc j) marked = set-keeps bs k j marked

set-alone : (marks : List Bool) (k j : ℕ) → Marked (slice_set marks k true) j → Marked marks j ⊎ (k ≡ j)
set-alone [] k j marked = inl marked
set-alone (b ∷ bs) zero zero marked = inr refl
set-alone (b ∷ bs) zero (suc j) marked = inl marked
set-alone (b ∷ bs) (suc k) zero marked = inl marked
set-alone (b ∷ bs) (suc k) (suc j) marked = by (set-alone bs k j marked) where
  by : Marked bs j ⊎ (k ≡ j) → Marked bs j ⊎ (suc k ≡ suc j)
  by (inl m) = inl m
  by (inr e) = inr (ap suc e)

-- how many aren't marked
abbrev pub unmarked_count : List Bool → ℕ
unmarked_count [] = 0
unmarked_count (b ∷ bs) = cond b (unmarked_count bs) (suc (unmarked_count bs))

set-counts : (marks : List Bool) (k : ℕ) → is_unfound marks k ≡ true → suc (unmarked_count (slice_set marks k true)) ≡ unmarked_count marks
set-counts [] k new = cc
set-counts (true ∷ bs) zero new = cc
set-counts (false ∷ bs) zero new = refl
set-counts (true ∷ bs) (suc k) new = set-counts bs k new
set-counts (false ∷ bs) (suc k) new = ap suc (set-counts bs k new)

new-within : (marks : List Bool) (k : ℕ) → is_unfound marks k ≡ true → k < length marks
new-within [] k new = cc
new-within (b ∷ bs) zero new = omega arith
new-within (b ∷ bs) (suc k) new = omega (arith, new-within bs k new)

old-marked : (marks : List Bool) (k : ℕ) → is_unfound marks k ≡ false → k < length marks → Marked marks k
old-marked [] k old below = absurd (omega arith)
old-marked (true ∷ bs) zero old below = refl
old-marked (false ∷ bs) zero old below = cc
old-marked (b ∷ bs) (suc k) old below = old-marked bs k old (omega arith)

-- ---- what marking some places adds

-- what is left to do: places to mark, and those that wait
abbrev pub left_over : Found → ℕ
left_over w = unmarked_count w.marks + length w.waiting

pub record Adds (w u : Found) (ks : List ℕ) : Type 0 where
  pub long : length u.marks ≡ length w.marks
  pub left : left_over u ≡ left_over w
  pub kept : (j : ℕ) → Marked w.marks j → Marked u.marks j
  pub still : (j : ℕ) → Among j w.waiting → Among j u.waiting
  pub waits : (j : ℕ) → Among j u.waiting → Among j w.waiting ⊎ Marked u.marks j
  pub from : (j : ℕ) → Marked u.marks j → Marked w.marks j ⊎ (Among j ks × Among j u.waiting)
  pub to : (j : ℕ) → Among j ks → j < length w.marks → Marked u.marks j

adds_nothing : (w : Found) → Adds w w []
adds_nothing w = record { long = refl; left = refl; kept = λ j m. m; still = λ j a. a; waits = λ j a. inl a; from = λ j m. inl m; to = λ j a below. absurd a }

adds_new : (w : Found) (k : ℕ) → is_unfound w.marks k ≡ true → Adds w (record { marks = slice_set w.marks k true; waiting = w.waiting ++ k ∷ [] }) (k ∷ [])
adds_new w k new = record {
  long = length-set w.marks k true;
  left = omega (arith, set-counts w.marks k new, length-append w.waiting (k ∷ []));
  kept = set-keeps w.marks k;
  still = λ j a. among-front w.waiting (k ∷ []) j a;
  waits = λ j a. waited j (among-either w.waiting (k ∷ []) j a);
  from = λ j m. came j (set-alone w.marks k j m);
  to = λ j a below. reached j a;
} where
  here : Marked (slice_set w.marks k true) k
  here = set-marks w.marks k (new-within w.marks k new)

  waited : (j : ℕ) → Among j w.waiting ⊎ Among j (k ∷ []) → Among j w.waiting ⊎ Marked (slice_set w.marks k true) j
  waited j (inl a) = inl a
  waited j (inr (inl e)) = inr (subst (λ j. Marked (slice_set w.marks k true) j) e here)
  waited j (inr (inr none)) = absurd none

  came : (j : ℕ) → Marked w.marks j ⊎ (k ≡ j) → Marked w.marks j ⊎ (Among j (k ∷ []) × Among j (w.waiting ++ k ∷ []))
  came j (inl m) = inl m
  came j (inr e) = inr (inl e, among-back w.waiting (k ∷ []) j (inl e))

  reached : (j : ℕ) → Among j (k ∷ []) → Marked (slice_set w.marks k true) j
  reached j (inl e) = subst (λ j. Marked (slice_set w.marks k true) j) e here
  reached j (inr none) = absurd none

adds_old : (w : Found) (k : ℕ) → is_unfound w.marks k ≡ false → Adds w w (k ∷ [])
adds_old w k old = record { long = refl; left = refl; kept = λ j m. m; still = λ j a. a; waits = λ j a. inl a; from = λ j m. inl m; to = λ j a below. reached j a below } where
  reached : (j : ℕ) → Among j (k ∷ []) → j < length w.marks → Marked w.marks j
  reached j (inl e) below = subst (Marked w.marks) e (old-marked w.marks k old (subst (λ j. j < length w.marks) (sym e) below))
  reached j (inr none) below = absurd none

adds_one : (w : Found) (k : ℕ) → Adds w (find_one w k) (k ∷ [])
adds_one w k = tested (is_unfound w.marks k) refl where
  tested : (b : Bool) → is_unfound w.marks k ≡ b → Adds w (cond b (record { marks = slice_set w.marks k true; waiting = w.waiting ++ k ∷ [] }) w) (k ∷ [])
  tested true e = adds_new w k e
  tested false e = adds_old w k e

adds_both : (w u v : Found) (k : ℕ) (ks : List ℕ) → Adds w u (k ∷ []) → Adds u v ks → Adds w v (k ∷ ks)
adds_both w u v k ks a b = record {
  long = b.long ∙ a.long;
  left = b.left ∙ a.left;
  kept = λ j m. b.kept j (a.kept j m);
  still = λ j h. b.still j (a.still j h);
  waits = λ j h. waited j (b.waits j h);
  from = λ j m. came j (b.from j m);
  to = reached;
} where
  waited : (j : ℕ) → Among j u.waiting ⊎ Marked v.marks j → Among j w.waiting ⊎ Marked v.marks j
  waited j (inr m) = inr m
  waited j (inl h) = earlier (a.waits j h) where
    earlier : Among j w.waiting ⊎ Marked u.marks j → Among j w.waiting ⊎ Marked v.marks j
    earlier (inl h) = inl h
    earlier (inr m) = inr (b.kept j m)

  came : (j : ℕ) → Marked u.marks j ⊎ (Among j ks × Among j v.waiting) → Marked w.marks j ⊎ (Among j (k ∷ ks) × Among j v.waiting)
  came j (inr h) = inr (inr h.0, h.1)
  came j (inl m) = earlier (a.from j m) where
    earlier : Marked w.marks j ⊎ (Among j (k ∷ []) × Among j u.waiting) → Marked w.marks j ⊎ (Among j (k ∷ ks) × Among j v.waiting)
    earlier (inl m) = inl m
    earlier (inr h) = inr (among-front (k ∷ []) ks j h.0, b.still j h.1)

  reached : (j : ℕ) → Among j (k ∷ ks) → j < length w.marks → Marked v.marks j
  reached j (inl e) below = b.kept j (a.to j (inl e) below)
  reached j (inr h) below = b.to j h (omega (arith, below, a.long))

pub adds_all : (w : Found) (ks : List ℕ) → Adds w (find_all w ks) ks
adds_all w [] = adds_nothing w
adds_all w (k ∷ ks) = adds_both w (find_one w k) (find_all (find_one w k) ks) k ks (adds_one w k) (adds_all (find_one w k) ks)

-- the one at a place of a list, and those after it
nth-and_rest : (f : Found) (ks : List ℕ) (n : ℕ) → n < length ks → find_all (find_nth f ks n) (drop (suc n) ks) ≡ find_all f (drop n ks)
nth-and_rest f [] n below = absurd (omega arith)
nth-and_rest f (k ∷ ks) zero below = refl
nth-and_rest f (k ∷ ks) (suc n) below = nth-and_rest f ks n (omega arith)

-- what is found where those from a place on are still to be, and then one of them is
pub one_further : (f u all : Found) (ks : List ℕ) (n : ℕ) → n < length ks → u ≡ find_nth f ks n → find_all f (drop n ks) ≡ all → find_all u (drop (n + 1) ks) ≡ all
one_further f u all ks n below found so_far =
    ap (λ (k : ℕ). find_all u (drop k ks)) (add-one n) ∙ ap (λ (f : Found). find_all f (drop (suc n) ks)) found ∙ nth-and_rest f ks n below ∙ so_far

-- ---- it begins

none-marked : (n k : ℕ) → Marked (replicate n false) k → ⊥
none-marked zero k marked = cc
none-marked (suc n) zero marked = cc
none-marked (suc n) (suc k) marked = none-marked n k marked

pub finding_begins : (first : List ℕ) (next : List (List ℕ)) (f : Found) → f.marks ≡ replicate (length next) false → f.waiting ≡ [] → Going first next (find_all f first)
finding_begins first next f unmarked idle = record {
  long = long ∙ ap length unmarked ∙ length-replicate (length next) false;
  entailed = λ k m. entails k m (a.from k m);
  begins = λ k c below. a.to k (among-contained first k c) (omega (arith, below, ap length unmarked, length-replicate (length next) false));
  waits = λ k c. waited k (a.waits k (among-contained u.waiting k c));
  followed = λ k m. follows k (a.from k m);
} where
  u : Found
  u = find_all f first

  a : Adds f u first
  a = adds_all f first

  long : length u.marks ≡ length f.marks
  long = a.long

  nothing_marked : (k : ℕ) → Marked f.marks k → ⊥
  nothing_marked k m = none-marked (length next) k (subst (λ (marks : List Bool). Marked marks k) unmarked m)

  entails : (k : ℕ) → Marked u.marks k → Marked f.marks k ⊎ (Among k first × Among k u.waiting) → Entailed (length next) first (pairs_from 0 next) k
  entails k m (inl before) = absurd (nothing_marked k before)
  entails k m (inr (h, there)) = from_first k (omega (arith, marked-within u.marks k m, long, ap length unmarked, length-replicate (length next) false)) (contained-among first k h)

  waited : (k : ℕ) → Among k f.waiting ⊎ Marked u.marks k → Marked u.marks k
  waited k (inl h) = absurd (subst (λ (ks : List ℕ). Among k ks) idle h)
  waited k (inr m) = m

  follows : (k : ℕ) → Marked f.marks k ⊎ (Among k first × Among k u.waiting) → Contains u.waiting k ⊎ IsFollowed next u.marks k
  follows k (inl m) = absurd (nothing_marked k m)
  follows k (inr h) = inl (contained-among u.waiting k h.1)

-- ---- it goes on

pub finding_goes : (first : List ℕ) (next : List (List ℕ)) (marks : List Bool) (rest : List ℕ) (k : ℕ) → Going first next (record { marks = marks; waiting = rest ++ k ∷ [] }) → Going first next (find_all (record { marks = marks; waiting = rest }) (successors_of next k))
finding_goes first next marks rest k ok = record {
  long = a.long ∙ ok.long;
  entailed = λ j m. entails j m (a.from j m);
  begins = λ j c below. a.kept j (ok.begins j c below);
  waits = λ j c. waited j (a.waits j (among-contained u.waiting j c));
  followed = λ j m. follows j (a.from j m);
} where
  f : Found
  f = record { marks = marks; waiting = rest }

  u : Found
  u = find_all f (successors_of next k)

  a : Adds f u (successors_of next k)
  a = adds_all f (successors_of next k)

  waits_here : (j : ℕ) → Among j (rest ++ k ∷ []) → Marked marks j
  waits_here j h = ok.waits j (contained-among (rest ++ k ∷ []) j h)

  entails : (j : ℕ) → Marked u.marks j → Marked marks j ⊎ (Among j (successors_of next k) × Among j u.waiting) → Entailed (length next) first (pairs_from 0 next) j
  entails j m (inl before) = ok.entailed j before
  entails j m (inr (h, there)) =
      over_pair k j (omega (arith, marked-within u.marks j m, a.long, ok.long)) (ok.entailed k (waits_here k (among-back rest (k ∷ []) k (inl refl))))
      (contained-among (pairs_from 0 next) (k, j) (successors-pairs next 0 k k j (omega arith) h))

  waited : (j : ℕ) → Among j rest ⊎ Marked u.marks j → Marked u.marks j
  waited j (inl h) = a.kept j (waits_here j (among-front rest (k ∷ []) j h))
  waited j (inr m) = m

  follows : (j : ℕ) → Marked marks j ⊎ (Among j (successors_of next k) × Among j u.waiting) → Contains u.waiting j ⊎ IsFollowed next u.marks j
  follows j (inr h) = inl (contained-among u.waiting j h.1)
  follows j (inl m) = before (ok.followed j m) where
    followed_now : k ≡ j → IsFollowed next u.marks j
    followed_now same i c below = a.to i (subst (λ (n : ℕ). Among i (successors_of next n)) (sym same) (among-contained (successors_of next j) i c)) (omega (arith, below, ok.long))

    waiting_before : Among j rest ⊎ Among j (k ∷ []) → Contains u.waiting j ⊎ IsFollowed next u.marks j
    waiting_before (inl h) = inl (contained-among u.waiting j (a.still j h))
    waiting_before (inr (inl same)) = inr (followed_now same)
    waiting_before (inr (inr none)) = absurd none

    before : Contains (rest ++ k ∷ []) j ⊎ IsFollowed next marks j → Contains u.waiting j ⊎ IsFollowed next u.marks j
    before (inl c) = waiting_before (among-either rest (k ∷ []) j (among-contained (rest ++ k ∷ []) j c))
    before (inr h) = inr (λ i c below. a.kept i (h i c below))

pub less_left : (marks : List Bool) (rest : List ℕ) (k : ℕ) (ts : List ℕ) → left_over (find_all (record { marks = marks; waiting = rest }) ts) < left_over (record { marks = marks; waiting = rest ++ k ∷ [] })
less_left marks rest k ts = omega (arith, (adds_all (record { marks = marks; waiting = rest }) ts).left, length-append rest (k ∷ []))

-- ---- none waits

pub finding_ends : (first : List ℕ) (next : List (List ℕ)) (f : Found) → Going first next f → f.waiting ≡ [] → f.marks ≡ entailed_marks (length next) first (pairs_from 0 next)
finding_ends first next f ok idle = closed-entailed_marks (length next) first (pairs_from 0 next) f.marks ok.long ok.entailed (record { begins = λ k among below. ok.begins k (contained-among first k among) below; leads = leads }) where
  leads : (j k : ℕ) → Marked f.marks j → Among (j, k) (pairs_from 0 next) → k < length next → Marked f.marks k
  leads j k m among below =
      let (i, is, there) = pairs-successors next 0 j k among in
      let same : i ≡ j = omega (arith, is) in
      by (subst (λ (n : ℕ). Among k (successors_of next n)) same there) (ok.followed j m) where
        by : Among k (successors_of next j) → Contains f.waiting j ⊎ IsFollowed next f.marks j → Marked f.marks k
        by there (inl c) = absurd (subst (λ (ks : List ℕ). Among j ks) idle (among-contained f.waiting j c))
        by there (inr h) = h k (contained-among (successors_of next j) k there) below
