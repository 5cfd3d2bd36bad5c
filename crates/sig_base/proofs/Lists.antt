-- Lemmas on any list that std doesn't have.
use Rattle.std.proofs.Common.{◌≡◌, ℕ, zero, suc, ◌<◌, ◌≤◌, ◌+◌, ◌-◌, Bool, true, false, cond, List, [], ◌∷◌, ◌++◌, All, map, take, drop, length, get_or, slice_index_or, replicate, Some, refl, sym, ap, ◌∙◌, subst, arith, Option, None}
use Rattle.std.specs.Prelude.{filter, slice_get, slice_index, filter_map}
use Rattle.std.specs.List.{AllByRecursion, flat_map, remove, cons_option}
use Rattle.std.proofs.Math.ListN.{set}
use Rattle.std.proofs.lemmas.List.{get_or-map, length-map, drop_more, map_more, flat_map_more}

filter-cons : {A B : Type 0} (f : A → B) (b : Bool) (x : A) (xs : List A) (ys : List B) → map f xs ≡ ys → map f (cond b (x ∷ xs) xs) ≡ cond b (f x ∷ ys) ys
filter-cons f true x xs ys e = ap (λ zs. f x ∷ zs) e
filter-cons f false x xs ys e = e

-- a test of the images may be made before the map
pub map-filter : {A B : Type 0} (f : A → B) (keeps : B → Bool) (xs : List A) → map f (filter (λ x. keeps (f x)) xs) ≡ filter keeps (map f xs)
map-filter f keeps [] = refl
map-filter f keeps (x ∷ xs) = filter-cons f (keeps (f x)) x (filter (λ y. keeps (f y)) xs) (filter keeps (map f xs)) (map-filter f keeps xs)

-- ---- places

-- there is an element at each place below the length
pub get_or-there : {A : Type 0} (xs : List A) (k : ℕ) → k < length xs → (x : A) × (x ≡ get_or xs k x)
get_or-there [] k below = absurd (omega (arith, below))
get_or-there (x ∷ xs) zero below = (x, refl)
get_or-there (x ∷ xs) (suc k) below = get_or-there xs k (omega (arith, below))

-- what holds of each element and of the default holds at each place
pub slice_index_or-all : {A : Type 0} (P : A → Type 0) (xs : List A) (d : A) (k : ℕ) → AllByRecursion P xs → P d → P (slice_index_or xs k d)
slice_index_or-all P [] d k all default = default
slice_index_or-all P (x ∷ xs) d zero all default = all.0
slice_index_or-all P (x ∷ xs) d (suc k) all default = slice_index_or-all P xs d k all.1 default

-- in a list of zeros, and past its end, there is 0
pub slice_index-zeros : (n k : ℕ) → slice_index (replicate n 0) k ≡ 0
slice_index-zeros zero k = refl
slice_index-zeros (suc n) zero = refl
slice_index-zeros (suc n) (suc k) = slice_index-zeros n k

-- how many places there are from one on: one more than from the next one on, or none
pub places_from : (i n : ℕ) → i < n → n - i ≡ suc (n - (i + 1))
places_from i n below = omega (arith, below)

pub no_places_from : (i n : ℕ) → n ≤ i → n - i ≡ 0
no_places_from i n past = omega (arith, past)

-- ---- the element after a front

pub get-after : {A : Type 0} (front : List A) (x : A) (later : List A) → slice_get (front ++ x ∷ later) (length front) ≡ Some x
get-after [] x later = refl
get-after (y ∷ front) x later = get-after front x later

pub remove-after : {A : Type 0} (front : List A) (x : A) (later : List A) → remove (front ++ x ∷ later) (length front) ≡ front ++ later
remove-after [] x later = refl
remove-after (y ∷ front) x later = ap (λ zs. y ∷ zs) (remove-after front x later)

-- ---- a loop that changes each element in its place

-- the first i elements of ys are those of xs as g changes them, seen by f, and the others are those of xs
abbrev pub ChangedTo : {A B : Type 0} → (A → B) → (B → B) → ℕ → List A → List A → Type 0
ChangedTo f g zero xs ys = xs ≡ ys
ChangedTo f g (suc i) [] ys = [] ≡ ys
ChangedTo f g (suc i) (x ∷ xs) [] = ⊥
ChangedTo f g (suc i) (x ∷ xs) (y ∷ ys) = (f y ≡ g (f x)) × ChangedTo f g i xs ys

module _ {A B : Type 0} (f : A → B) (g : B → B) where
  -- the element at i is still that of xs
  pub ChangedTo-at : (i : ℕ) (xs ys : List A) (d : A) → ChangedTo f g i xs ys → get_or ys i d ≡ get_or xs i d
  ChangedTo-at zero xs ys d h = ap (λ zs. get_or zs 0 d) (sym h)
  ChangedTo-at (suc i) [] ys d h = ap (λ zs. get_or zs (suc i) d) (sym h)
  ChangedTo-at (suc i) (x ∷ xs) [] d h = absurd h
  ChangedTo-at (suc i) (x ∷ xs) (y ∷ ys) d h = ChangedTo-at i xs ys d h.1

  pub ChangedTo-length : (i : ℕ) (xs ys : List A) → ChangedTo f g i xs ys → length ys ≡ length xs
  ChangedTo-length zero xs ys h = ap length (sym h)
  ChangedTo-length (suc i) [] ys h = ap length (sym h)
  ChangedTo-length (suc i) (x ∷ xs) [] h = absurd h
  ChangedTo-length (suc i) (x ∷ xs) (y ∷ ys) h = ap suc (ChangedTo-length i xs ys h.1)

  first_changed : (xs : List A) (d v : A) → 0 < length xs → f v ≡ g (f (get_or xs 0 d)) → ChangedTo f g 1 xs (set xs 0 v)
  first_changed [] d v lt e = absurd (omega arith)
  first_changed (x ∷ xs) d v lt e = (e, refl)

  pub ChangedTo-step : (i : ℕ) (xs ys : List A) (d v : A) → i < length ys → f v ≡ g (f (get_or ys i d)) → ChangedTo f g i xs ys → ChangedTo f g (suc i) xs (set ys i v)
  ChangedTo-step zero xs ys d v lt e h =
      subst (λ (zs : List A). ChangedTo f g 1 xs (set zs 0 v)) h (first_changed xs d v (subst (λ (zs : List A). 0 < length zs) (sym h) lt) (e ∙ ap (λ zs. g (f (get_or zs 0 d))) (sym h)))
  ChangedTo-step (suc i) [] ys d v lt e h = absurd (omega (arith, ap length h))
  ChangedTo-step (suc i) (x ∷ xs) [] d v lt e h = absurd h
  ChangedTo-step (suc i) (x ∷ xs) (y ∷ ys) d v lt e h = (h.0, ChangedTo-step i xs ys d v (omega arith) e h.1)

  pub ChangedTo-all : (i : ℕ) (xs ys : List A) → length ys ≡ i → ChangedTo f g i xs ys → map f ys ≡ map g (map f xs)
  ChangedTo-all zero xs [] len h = ap (λ zs. map g (map f zs)) (sym h)
  ChangedTo-all zero xs (y ∷ ys) len h = absurd (omega (arith, len))
  ChangedTo-all (suc i) [] ys len h = ap (map f) (sym h)
  ChangedTo-all (suc i) (x ∷ xs) [] len h = absurd h
  ChangedTo-all (suc i) (x ∷ xs) (y ∷ ys) len h = (λ k. h.0 k ∷ ChangedTo-all i xs ys (omega (arith, len)) h.1 k)

-- ---- what a loop has written after one element more

-- the elements seen, with one more
pub seen_more : {X Y : Type 0} (view : X → Y) (xs : List X) (i : ℕ) (x : X) → i < length xs → x ≡ get_or xs i x → map view (take (i + 1) xs) ≡ map view (take i xs) ++ view x ∷ []
seen_more view xs i x lt is = rw (map_more view xs i x lt, ← is) refl

-- what is written for an element joins what was written for those before it
pub one_more : {Y C : Type 0} (text : Y → List C) (start before after : List C) (ys more : List Y) (y : Y) → more ≡ ys ++ y ∷ [] → after ≡ before ++ text y → before ≡ start ++ flat_map text ys → after ≡ start ++ flat_map text more
one_more text start before after ys more y is wrote so_far = rw (is, wrote, so_far) (flat_map_more text start ys y)

map-push : {A B : Type 0} (f : A → B) (xs : List A) (x : A) (later : List B) → map f (xs ++ x ∷ []) ++ later ≡ map f xs ++ f x ∷ later
map-push f [] x later = refl
map-push f (y ∷ xs) x later = ap (λ zs. f y ∷ zs) (map-push f xs x later)

-- an element pushed takes the place of the first of what was to come
pub pushed : {A B : Type 0} (f : A → B) (before after : List A) (x : A) (y : B) (rest later all : List B) → after ≡ before ++ x ∷ [] → f x ≡ y → rest ≡ y ∷ later → map f before ++ rest ≡ all → map f after ++ later ≡ all
pushed f before after x y rest later all e same split h =
    ap (λ xs. map f xs ++ later) e ∙ map-push f before x later ∙ ap (λ z. map f before ++ z ∷ later) same ∙ ap (λ zs. map f before ++ zs) (sym split) ∙ h

-- ---- a fact of every element

-- what holds of anything holds of every element
pub every-always : {A : Type 0} (P : A → Type 0) → ((a : A) → P a) → (xs : List A) → AllByRecursion P xs
every-always P f [] = tt
every-always P f (x ∷ xs) = (f x, every-always P f xs)

-- ---- one element of a list that a loop goes along

-- a fact of the view of each element holds of the view of one of them
pub holds_of_each : {X Y : Type 0} (P : Y → Type 0) (view : X → Y) (xs : List X) (i : ℕ) (x : X) → All P (map view xs) → i < length xs → x ≡ get_or xs i x → P (view x)
holds_of_each P view xs i x all below is =
    subst P (get_or-map view xs i x (view x) below ∙ ap view (sym is)) (all i (view x) (omega (arith, below, length-map xs view)))

-- what remains begins with the element
pub one_left : {A : Type 0} (xs : List A) (i : ℕ) (x : A) → i < length xs → x ≡ get_or xs i x → drop i xs ≡ x ∷ drop (i + 1) xs
one_left xs i x below is = drop_more xs i x below ∙ ap (λ y. y ∷ drop (i + 1) xs) (sym is)

-- the view of what remains begins with the view of the element
pub remaining_more : {X Y : Type 0} (view : X → Y) (xs : List X) (i : ℕ) (x : X) → i < length xs → x ≡ get_or xs i x → map view (drop i xs) ≡ view x ∷ map view (drop (i + 1) xs)
remaining_more view xs i x below is = ap (map view) (one_left xs i x below is)

-- ---- what a test of each finds

-- what is found is found at some element
pub first_found-of : {A B : Type 0} (f : A → Option B) (xs : List A) (y : B) → slice_get (filter_map f xs) 0 ≡ Some y → (x : A) × (f x ≡ Some y)
first_found-of f [] y e = cc
first_found-of {A} {B} f (x ∷ xs) y e = by (f x) refl (first_found-of f xs y) e where
  by : (o : Option B) → f x ≡ o → (slice_get (filter_map f xs) 0 ≡ Some y → (x : A) × (f x ≡ Some y)) → slice_get (cons_option o (filter_map f xs)) 0 ≡ Some y → (x : A) × (f x ≡ Some y)
  by (Some z) found later is = (x, found ∙ is)
  by None none later is = later is
