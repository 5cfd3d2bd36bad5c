-- Sorting by insertion: each entry goes before the first one that isn't due before it, which keeps the order of those
-- that are due alike.
use Rattle.std.proofs.Common.{◌≡◌, Bool, true, false, cond, List, [], ◌∷◌, ◌++◌, refl, ap, ◌∙◌}
use Rattle.std.specs.List.{AllByRecursion}
use Rattle.model_core.specs.Run.Pending.{Entry, sooner}
use Rattle.order_laws.proofs.Sooner.{sooner-trans, sooner-not, sooner-asym}

abbrev pub put_in : Entry → List Entry → List Entry
put_in e [] = e ∷ []
put_in e (x ∷ xs) = cond (sooner x e) (x ∷ put_in e xs) (e ∷ x ∷ xs)

abbrev pub sorted : List Entry → List Entry
sorted [] = []
sorted (e ∷ es) = put_in e (sorted es)

-- ---- one more at the end

-- e goes after the last one that isn't due after it
abbrev pub put_after : Entry → List Entry → List Entry
put_after e [] = e ∷ []
put_after e (x ∷ xs) = cond (sooner e x) (e ∷ x ∷ xs) (x ∷ put_after e xs)

put_both-in : (x e y : Entry) (l : List Entry) (a b c : Bool) → sooner e y ≡ a → sooner y x ≡ b → sooner e x ≡ c → put_in x (put_after e l) ≡ put_after e (put_in x l) → put_in x (cond a (e ∷ y ∷ l) (y ∷ put_after e l)) ≡ put_after e (cond b (y ∷ put_in x l) (x ∷ y ∷ l))
put_both-in x e y l true true true ea eb ec later = simp (ea, eb, ec)
put_both-in x e y l true true false ea eb ec later = let no = sooner-trans e y x ea eb in cc
put_both-in x e y l true false true ea eb ec later = simp (ea, eb, ec)
put_both-in x e y l true false false ea eb ec later = simp (ea, eb, ec)
put_both-in x e y l false true c ea eb ec later = simp (ea, eb) (ap (λ l. y ∷ l) later)
put_both-in x e y l false false true ea eb ec later = let no = sooner-not x y e eb ea in cc
put_both-in x e y l false false false ea eb ec later = simp (ea, eb, ec)

put_both : (x e : Entry) (l : List Entry) → put_in x (put_after e l) ≡ put_after e (put_in x l)
put_both x e [] = one (sooner e x) where
  one : (b : Bool) → cond b (e ∷ x ∷ []) (x ∷ e ∷ []) ≡ cond b (e ∷ x ∷ []) (x ∷ e ∷ [])
  one b = refl
put_both x e (y ∷ l) = put_both-in x e y l (sooner e y) (sooner y x) (sooner e x) refl refl refl (put_both x e l)

pub sorted-scheduled : (p : List Entry) (e : Entry) → sorted (p ++ e ∷ []) ≡ put_after e (sorted p)
sorted-scheduled [] e = refl
sorted-scheduled (x ∷ p) e = ap (put_in x) (sorted-scheduled p e) ∙ put_both x e (sorted p)

-- ---- what is sorted

-- none of these is due before e
abbrev pub NoneSooner : Entry → List Entry → Type 0
NoneSooner e xs = AllByRecursion (λ x. sooner x e ≡ false) xs

abbrev pub IsSorted : List Entry → Type 0
IsSorted [] = Unit {0}
IsSorted (x ∷ xs) = NoneSooner x xs × IsSorted xs

pub none_sooner-trans : (a b : Entry) (xs : List Entry) → sooner b a ≡ false → NoneSooner b xs → NoneSooner a xs
none_sooner-trans a b [] h all = tt
none_sooner-trans a b (x ∷ xs) h (here, all) = (sooner-not a b x h here, none_sooner-trans a b xs h all)

none_sooner-put : (a e : Entry) (xs : List Entry) → sooner e a ≡ false → NoneSooner a xs → NoneSooner a (put_in e xs)
none_sooner-put a e [] h all = (h, tt)
none_sooner-put a e (x ∷ xs) h (here, all) = chosen (sooner x e) (none_sooner-put a e xs h all) where
  chosen : (b : Bool) → NoneSooner a (put_in e xs) → NoneSooner a (cond b (x ∷ put_in e xs) (e ∷ x ∷ xs))
  chosen true later = (here, later)
  chosen false later = (h, (here, all))

put_in-sorted : (e : Entry) (xs : List Entry) → IsSorted xs → IsSorted (put_in e xs)
put_in-sorted e [] s = (tt, tt)
put_in-sorted e (x ∷ xs) (all, s) = chosen (sooner x e) refl (put_in-sorted e xs s) where
  chosen : (b : Bool) → sooner x e ≡ b → IsSorted (put_in e xs) → IsSorted (cond b (x ∷ put_in e xs) (e ∷ x ∷ xs))
  chosen true h later = (none_sooner-put x e xs (sooner-asym x e h) all, later)
  chosen false h later = ((h, none_sooner-trans e x xs h all), (all, s))

pub sorted-IsSorted : (p : List Entry) → IsSorted (sorted p)
sorted-IsSorted [] = tt
sorted-IsSorted (e ∷ p) = put_in-sorted e (sorted p) (sorted-IsSorted p)

-- none of those after it is due before it: it stays in front
pub put_in-front : (e : Entry) (xs : List Entry) → NoneSooner e xs → put_in e xs ≡ e ∷ xs
put_in-front e [] all = refl
put_in-front e (x ∷ xs) (here, all) = simp here

-- ---- what holds of all

put_in-every : (P : Entry → Type 0) (e : Entry) (xs : List Entry) → P e → AllByRecursion P xs → AllByRecursion P (put_in e xs)
put_in-every P e [] p all = (p, tt)
put_in-every P e (x ∷ xs) p (here, all) = chosen (sooner x e) (put_in-every P e xs p all) where
  chosen : (b : Bool) → AllByRecursion P (put_in e xs) → AllByRecursion P (cond b (x ∷ put_in e xs) (e ∷ x ∷ xs))
  chosen true later = (here, later)
  chosen false later = (p, (here, all))

-- it holds of them sorted
pub sorted-every : (P : Entry → Type 0) (xs : List Entry) → AllByRecursion P xs → AllByRecursion P (sorted xs)
sorted-every P [] all = tt
sorted-every P (x ∷ xs) (here, all) = put_in-every P x (sorted xs) here (sorted-every P xs all)
