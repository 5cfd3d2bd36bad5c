-- Numbers that move at variables one by one move as the contracts say: each by one, once.
use Rattle.std.proofs.Common.{◌≡◌, ℕ, zero, suc, ◌+◌, ◌<◌, ◌≤◌, ◌==◌, Bool, true, false, cond, ◌||◌, List, [], ◌∷◌, ◌++◌, map, length, take, drop, get_or, replicate, refl, sym, ◌∙◌, ap, ap₂, subst, add-one, arith}
use Rattle.std.specs.Prelude.{slice_index}
use Rattle.std.specs.List.{flat_map}
use Rattle.std.proofs.Math.Seq.{drop-cons}
use Rattle.std.proofs.lemmas.List.{take_at}
use Rattle.std.proofs.lemmas.Bool.Decides.{nat_tests}
use Rattle.model_core.specs.Rules.MarkedPlaces.{is_among}
use Rattle.model_core.specs.Rules.PlacedEdges.{with_place}
use Rattle.model_core.proofs.EachOne.{every-map}
use Rattle.model_core.proofs.PlacesChanged.{same_number, different}
use Rattle.use_analysis.specs.declared.moving.Stamped.{Stamped}
use Rattle.use_analysis.specs.declared.moving.Way.{Way}
use Rattle.use_analysis.specs.declared.moving.Way.TheVariants as ways
use Rattle.use_analysis.specs.declared.moving.Part.{Part}
use Rattle.use_analysis.specs.UseNumbers.{UseNumbers, changed_where, raised_at, CanRaise}
use Rattle.use_analysis.specs.Inner.Moving.{shifted, moved_number, moved_at, numbers_of, StampedTo, StampedBelow, nothing_stamped, without_stamp}

-- the variables of two parts of a part are walked one after the other
pub moved_together : (part : Part) (first second : List ℕ) (numbers : List Stamped) → moved_at part (first ++ second) numbers ≡ moved_at part second (moved_at part first numbers)
moved_together part [] second numbers = refl
moved_together part (v ∷ first) second numbers = moved_together part first second (with_place (moved_number part) v numbers)

-- ---- each number by itself, with so many before the first

each_number : (ℕ → Stamped → Stamped) → ℕ → List Stamped → List Stamped
each_number f k [] = []
each_number f k (x ∷ xs) = f k x ∷ each_number f (k + 1) xs

each_alike : (f g : ℕ → Stamped → Stamped) (a : ℕ) (xs : List Stamped) → ((j : ℕ) (x : Stamped) → a ≤ j → f j x ≡ g j x) → each_number f a xs ≡ each_number g a xs
unfolding each_number
each_alike f g a [] same = refl
each_alike f g a (x ∷ xs) same = ap₂ (λ y ys. y ∷ ys) (same a x (omega arith)) (each_alike f g (a + 1) xs (λ j y from. same j y (omega (arith, from))))

each_stays : (a : ℕ) (xs : List Stamped) → xs ≡ each_number (λ j x. x) a xs
unfolding each_number
each_stays a [] = refl
each_stays a (x ∷ xs) = ap (λ ys. x ∷ ys) (each_stays (a + 1) xs)

each_twice : (f g : ℕ → Stamped → Stamped) (a : ℕ) (xs : List Stamped) → each_number f a (each_number g a xs) ≡ each_number (λ j x. f j (g j x)) a xs
unfolding each_number
each_twice f g a [] = refl
each_twice f g a (x ∷ xs) = ap (λ ys. f a (g a x) ∷ ys) (each_twice f g (a + 1) xs)

-- a number is changed at one place alone
placed_each : (f : Stamped → Stamped) (v t a : ℕ) (xs : List Stamped) → a + v ≡ t → with_place f v xs ≡ each_number (λ j x. cond (t == j) (f x) x) a xs
unfolding each_number
placed_each f v t a [] is = refl
placed_each f zero t a (x ∷ xs) is =
    ap₂ (λ y ys. y ∷ ys) (ap (λ b. cond b (f x) x) (sym (same_number t a (omega (arith, is)))))
    (each_stays (a + 1) xs ∙ each_alike (λ j y. y) (λ j y. cond (t == j) (f y) y) (a + 1) xs (λ j y from. ap (λ b. cond b (f y) y) (sym (different t j (omega (arith, is, from))))))
placed_each f (suc v) t a (x ∷ xs) is =
    ap₂ (λ y ys. y ∷ ys) (ap (λ b. cond b (f x) x) (sym (apart t a (omega (arith, is)))))
    (placed_each f v t (a + 1) xs (omega (arith, is))) where
      apart : (t a : ℕ) → a < t → (t == a) ≡ false
      apart t a above = grind (arith, nat_tests)

-- ---- a part moves a number once

moved_new : (part : Part) (x : Stamped) → (x.stamp == part.stamp) ≡ false → moved_number part x ≡ record { number = shifted part.way x.number; stamp = part.stamp }
moved_new part x is = ap (λ b. cond b x (record { number = shifted part.way x.number; stamp = part.stamp })) is

moved_once : (part : Part) (x : Stamped) → moved_number part (moved_number part x) ≡ moved_number part x
moved_once part x = by_stamp (x.stamp == part.stamp) refl where
  by_stamp : (b : Bool) → (x.stamp == part.stamp) ≡ b → moved_number part (moved_number part x) ≡ moved_number part x
  by_stamp true is = ap (moved_number part) (ap (λ b. cond b x (record { number = shifted part.way x.number; stamp = part.stamp })) is)
  by_stamp false is =
      let y : Stamped = record { number = shifted part.way x.number; stamp = part.stamp } in
      ap (moved_number part) (moved_new part x is)
      ∙ ap (λ b. cond b y (record { number = shifted part.way y.number; stamp = part.stamp })) (same_number part.stamp part.stamp refl)
      ∙ sym (moved_new part x is)

-- so a number moves where its place is among those of the variables
abbrev moved_if_among : Part → List ℕ → ℕ → Stamped → Stamped
moved_if_among part vs j x = cond (is_among vs j) (moved_number part x) x

moved_each : (part : Part) (vs : List ℕ) (xs : List Stamped) → moved_at part vs xs ≡ each_number (moved_if_among part vs) 0 xs
moved_each part [] xs = each_stays 0 xs
moved_each part (v ∷ vs) xs =
    moved_each part vs (with_place (moved_number part) v xs)
    ∙ ap (each_number (moved_if_among part vs) 0) (placed_each (moved_number part) v v 0 xs (omega arith))
    ∙ each_twice (moved_if_among part vs) (λ j x. cond (v == j) (moved_number part x) x) 0 xs
    ∙ each_alike (λ j x. moved_if_among part vs j (cond (v == j) (moved_number part x) x)) (moved_if_among part (v ∷ vs)) 0 xs (λ j x from. both (v == j) (is_among vs j) x) where
      both : (here later : Bool) (x : Stamped) → cond later (moved_number part (cond here (moved_number part x) x)) (cond here (moved_number part x) x) ≡ cond (here || later) (moved_number part x) x
      both true true x = moved_once part x
      both true false x = refl
      both false true x = refl
      both false false x = refl

-- ---- the numbers after a part whose stamp is new

each_numbered_new : (part : Part) (test : ℕ → Bool) (a : ℕ) (xs : List Stamped) → StampedBelow part.stamp xs → numbers_of (each_number (λ j x. cond (test j) (moved_number part x) x) a xs) ≡ changed_where test (shifted part.way) a (numbers_of xs)
unfolding each_number
each_numbered_new part test a [] all = refl
each_numbered_new part test a (x ∷ xs) (below, all) =
    ap₂ (λ n ns. n ∷ ns) (one (test a)) (each_numbered_new part test (a + 1) xs all) where
      one : (b : Bool) → (cond b (moved_number part x) x).number ≡ cond b (shifted part.way x.number) x.number
      one true = ap (λ (y : Stamped). y.number) (moved_new part x (different x.stamp part.stamp below))
      one false = refl

each_stamped : (part : Part) (test : ℕ → Bool) (a : ℕ) (xs : List Stamped) → StampedBelow part.stamp xs → StampedTo part.stamp (each_number (λ j x. cond (test j) (moved_number part x) x) a xs)
unfolding each_number
each_stamped part test a [] all = tt
each_stamped part test a (x ∷ xs) (below, all) = (one (test a), each_stamped part test (a + 1) xs all) where
  one : (b : Bool) → (cond b (moved_number part x) x).stamp ≤ part.stamp
  one true = let same = ap (λ (y : Stamped). y.stamp) (moved_new part x (different x.stamp part.stamp below)) in omega (arith, same)
  one false = omega (arith, below)

pub part_moves : (part : Part) (vs : List ℕ) (xs : List Stamped) → StampedBelow part.stamp xs → numbers_of (moved_at part vs xs) ≡ changed_where (is_among vs) (shifted part.way) 0 (numbers_of xs)
part_moves part vs xs new = ap numbers_of (moved_each part vs xs) ∙ each_numbered_new part (is_among vs) 0 xs new

pub part_stamps : (part : Part) (vs : List ℕ) (xs : List Stamped) → StampedBelow part.stamp xs → StampedTo part.stamp (moved_at part vs xs)
part_stamps part vs xs new = subst (StampedTo part.stamp) (sym (moved_each part vs xs)) (each_stamped part (is_among vs) 0 xs new)

pub stamped_below : (last : ℕ) (xs : List Stamped) → StampedTo last xs → StampedBelow (last + 1) xs
stamped_below last xs all = every-map (λ (x : Stamped). x.stamp ≤ last) (λ (x : Stamped). x.stamp < last + 1) (λ x to. omega (arith, to)) xs all

pub stamped_to : (last next : ℕ) (xs : List Stamped) → last ≡ next → StampedBelow next xs → StampedTo last xs
stamped_to last next xs same all = every-map (λ (x : Stamped). x.stamp < next) (λ (x : Stamped). x.stamp ≤ last) (λ x below. omega (arith, below, same)) xs all

-- the numbers of a vector, which lends them all, after a part that has a new stamp
module _ (part : Part) (vs : List ℕ) {items lent now : List Stamped} {count : ℕ} (all : lent ≡ items) (counted : count ≡ length items) (same : length now ≡ length lent) (new : StampedBelow part.stamp items) (moves : now ≡ moved_at part vs lent) where
  given_back : take count (now ++ drop (length now) items) ≡ moved_at part vs items
  given_back = take_at now _ count (omega (arith, same, counted, ap length all)) ∙ moves ∙ ap (moved_at part vs) all

  pub part_done : {way : Way} {before : List ℕ} → part.way ≡ way → numbers_of items ≡ before → numbers_of (take count (now ++ drop (length now) items)) ≡ changed_where (is_among vs) (shifted way) 0 before
  part_done is kept = ap numbers_of given_back ∙ part_moves part vs items new ∙ ap₂ (λ way ns. changed_where (is_among vs) (shifted way) 0 ns) is kept

  pub part_stamped : {last : ℕ} → last ≡ part.stamp → StampedTo last (take count (now ++ drop (length now) items))
  part_stamped is = subst (λ n. StampedTo n (take count (now ++ drop (length now) items))) (sym is) (subst (StampedTo part.stamp) (sym given_back) (part_stamps part vs items new))

-- ---- up by one

changed_alike : (test : ℕ → Bool) (f g : ℕ → ℕ) (a : ℕ) (ns : List ℕ) → ((k t : ℕ) → a + k ≡ t → k < length ns → test t ≡ true → f (slice_index ns k) ≡ g (slice_index ns k)) → changed_where test f a ns ≡ changed_where test g a ns
changed_alike test f g a [] same = refl
changed_alike test f g a (n ∷ ns) same =
    ap₂ (λ m ms. m ∷ ms) (one (test a) refl) (changed_alike test f g (a + 1) ns (λ k t is below passes. same (suc k) t (omega (arith, is)) (omega (arith, below)) passes)) where
      one : (b : Bool) → test a ≡ b → cond (test a) (f n) n ≡ cond (test a) (g n) n
      one true is = ap (λ b. cond b (f n) n) is ∙ same zero a (omega arith) (omega arith) is ∙ ap (λ b. cond b (g n) n) (sym is)
      one false is = ap (λ b. cond b (f n) n) is ∙ ap (λ b. cond b (g n) n) (sym is)

pub numbers_raised : (vars ns : List ℕ) → CanRaise vars ns → changed_where (is_among vars) (shifted ways.Up) 0 ns ≡ raised_at vars ns
numbers_raised vars ns can =
    changed_alike (is_among vars) (shifted ways.Up) (λ n. n + 1) 0 ns
    (λ k t is below among. let few = can k below (ap (is_among vars) (omega (arith, is)) ∙ among) in omega (arith, few))

-- ---- walks over lists of parts of a part

module _ {A B : Type 0} (view : A → B) (gives : B → List ℕ) (part : Part) where
  -- one more is walked
  pub walked_more : (xs : List A) (i : ℕ) (x : A) (before now all : List Stamped) → i < length xs → x ≡ get_or xs i x → now ≡ moved_at part (gives (view x)) before
      → moved_at part (flat_map gives (map view (drop i xs))) before ≡ all → moved_at part (flat_map gives (map view (drop (i + 1) xs))) now ≡ all
  walked_more xs i x before now all below is moves so_far =
      let rest = flat_map gives (map view (drop (suc i) xs)) in
      ap (λ n. moved_at part (flat_map gives (map view (drop n xs))) now) (add-one i)
      ∙ ap (moved_at part rest) moves
      ∙ sym (moved_together part (gives (view x)) rest before)
      ∙ ap (λ (ys : List A). moved_at part (flat_map gives (map view ys)) before) (sym (drop-cons xs i x below ∙ ap (λ (y : A). y ∷ drop (suc i) xs) (sym is)))
      ∙ so_far

-- ---- stamps that are taken away

pub wiped_numbers : (xs : List Stamped) → numbers_of (map without_stamp xs) ≡ numbers_of xs
wiped_numbers [] = refl
wiped_numbers (x ∷ xs) = ap (λ ns. x.number ∷ ns) (wiped_numbers xs)

pub wiped_stamps : (xs : List Stamped) → StampedTo 0 (map without_stamp xs)
wiped_stamps [] = tt
wiped_stamps (x ∷ xs) = (omega arith, wiped_stamps xs)

pub nothing_numbered : (count : ℕ) → numbers_of (nothing_stamped count) ≡ replicate count 0
nothing_numbered zero = refl
nothing_numbered (suc count) = ap (λ ns. 0 ∷ ns) (nothing_numbered count)

-- the number at a place, whatever a place beyond the end gives
pub read_there : (xs : List Stamped) (k : ℕ) (d : Stamped) → get_or xs k d ≡ get_or xs k (get_or xs k d)
read_there [] k d = refl
read_there (x ∷ xs) zero d = refl
read_there (x ∷ xs) (suc k) d = read_there xs k d

-- ---- both lists

pub both_lists : (a b s t : List ℕ) → a ≡ b → s ≡ t → ◌≡◌ {A = UseNumbers} (record { readers = a; setters = s }) (record { readers = b; setters = t })
both_lists a b s t first second = ap₂ (λ (x y : List ℕ). record { readers = x; setters = y }) first second
