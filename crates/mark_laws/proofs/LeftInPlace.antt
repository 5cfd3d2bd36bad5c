-- A walk that takes items out of a list in place: what has been kept so far, and one item more.
use Rattle.std.proofs.Common.{◌≡◌, ℕ, suc, ◌<◌, ◌≤◌, ◌+◌, Bool, true, false, cond, List, [], ◌∷◌, ◌++◌, map, take, drop, length, get_or, set, sym, ap, ap₂, subst, ◌∙◌, arith, add-one, append-nil, append_assoc}
use Rattle.std.proofs.lemmas.List.{map-append, length-set, take-set-le, drop_more, drop-set, drop-set-lt, drop_all, set-get_or}
use Rattle.sig_base.proofs.Lists.{get_or-there}

-- seen by view, the first k of ys are what is left of the items of xs before place i, and from there on ys is as xs was. What
-- is left of items may go by the place from which they begin
pub record LeftInPlace {X A : Type 0} (view : X → A) (left : ℕ → List A → List A) (xs ys : List X) (k i : ℕ) : Type 0 where
  pub so_far : map view (take k ys) ++ left i (map view (drop i xs)) ≡ left 0 (map view xs)
  pub rest : drop i ys ≡ drop i xs
  pub within : k ≤ i
  pub long : length ys ≡ length xs

-- the item of ys at place i moves up after the first k, if it stays: so the list is zs, and r items are kept
abbrev pub IsMovedUp : {X : Type 0} → Bool → ℕ → ℕ → ℕ → List X → List X → Type 0
IsMovedUp stays k i r ys zs = record {
  count : r ≡ k + cond stays 1 0;
  front : take r zs ≡ take k ys ++ cond stays (take 1 (drop i ys)) [];
  rest : drop (i + 1) zs ≡ drop (i + 1) ys;
  long : length zs ≡ length ys;
}

map-one : {X A : Type 0} (view : X → A) (b : Bool) (front : List X) (y : X) → map view (front ++ cond b (y ∷ []) []) ≡ map view front ++ cond b (view y ∷ []) []
map-one view true front y = map-append view front (y ∷ [])
map-one view false front y = map-append view front []

no_more : (b : Bool) (k i r : ℕ) → k ≤ i → r ≡ k + cond b 1 0 → r ≤ i + 1
no_more true k i r within count = omega arith
no_more false k i r within count = omega arith

-- the loop ends at the length of all items
module _ {X A : Type 0} {view : X → A} {left : ℕ → List A → List A} {xs ys : List X} {k i : ℕ} (h : LeftInPlace view left xs ys k i) {end count : ℕ} where
  -- the item x at place i is written anew as y, and then kept or not
  pub one_left : (x y : X) (b : Bool) {r : ℕ} {zs : List X} → i < end → end ≡ count → count ≡ length xs → x ≡ get_or ys i x
      → ((later : List A) → left i (view x ∷ later) ≡ cond b (view y ∷ []) [] ++ left (suc i) later)
      → IsMovedUp b k i r (set ys i y) zs → LeftInPlace view left xs zs r (i + 1)
  one_left x y b {r} {zs} below many whole is splits moved =
      let here : drop i ys ≡ x ∷ drop (i + 1) ys = drop_more ys i x (omega (arith, h.long)) ∙ ap (λ z. z ∷ drop (i + 1) ys) (sym is) in
      let there : drop i xs ≡ get_or xs i x ∷ drop (i + 1) xs = drop_more xs i x (omega arith) in
      let later : drop (i + 1) ys ≡ drop (i + 1) xs = ap (drop 1) (sym here ∙ h.rest ∙ there) in
      let written : take 1 (drop i (set ys i y)) ≡ y ∷ [] = ap (take 1) (drop-set ys i y (omega (arith, h.long))) in
      let kept : take r zs ≡ take k ys ++ cond b (y ∷ []) [] = moved.front ∙ ap₂ (λ (us vs : List X). us ++ cond b vs []) (take-set-le k ys i y h.within) written in
      let later_left = left (i + 1) (map view (drop (i + 1) xs)) in
      let before : left i (map view (drop i xs)) ≡ cond b (view y ∷ []) [] ++ later_left =
      ap (λ (us : List X). left i (map view us)) (sym h.rest ∙ here ∙ ap (λ (us : List X). x ∷ us) later) ∙ splits (map view (drop (i + 1) xs))
      ∙ ap (λ n. cond b (view y ∷ []) [] ++ left n (map view (drop (i + 1) xs))) (sym (add-one i)) in
      record {
        so_far = ap (λ (us : List X). map view us ++ later_left) kept
            ∙ ap (λ (us : List A). us ++ later_left) (map-one view b (take k ys) y)
            ∙ append_assoc (map view (take k ys)) (cond b (view y ∷ []) []) later_left
            ∙ ap (λ (us : List A). map view (take k ys) ++ us) (sym before)
            ∙ h.so_far;
        rest = moved.rest ∙ drop-set-lt (i + 1) ys i y (omega arith) ∙ later;
        within = no_more b k i r h.within moved.count;
        long = moved.long ∙ length-set ys i y ∙ h.long;
      }

  -- the item at place i is kept or not, as it is
  pub one_kept : (b : Bool) {r : ℕ} {zs : List X} → i < end → end ≡ count → count ≡ length xs
      → ((x : X) (later : List A) → left i (view x ∷ later) ≡ cond b (view x ∷ []) [] ++ left (suc i) later)
      → IsMovedUp b k i r ys zs → LeftInPlace view left xs zs r (i + 1)
  one_kept b {r} {zs} below many whole splits moved =
      let (x, is) = get_or-there ys i (omega (arith, h.long)) in
      let same : ys ≡ set ys i x = sym (set-get_or ys i x) ∙ ap (set ys i) (sym is) in
      one_left x x b below many whole is (splits x) (subst (λ (us : List X). IsMovedUp b k i r us zs) same moved)

  pub all_left : end ≤ i → end ≡ count → count ≡ length xs → left i [] ≡ [] → map view (take k ys) ≡ left 0 (map view xs)
  all_left beyond many whole none =
      sym (append-nil (map view (take k ys)))
      ∙ ap (λ (us : List A). map view (take k ys) ++ us) (sym (ap (λ (us : List X). left i (map view us)) (drop_all i xs (omega arith)) ∙ none))
      ∙ h.so_far
