-- The checks of the parts of a list, one after another.
use Rattle.std.proofs.Common.{◌≡◌, ℕ, ◌+◌, ◌<◌, List, [], ◌∷◌, ◌++◌, length, get_or, take, map, Option, Some, None, refl, sym, ap, ◌∙◌, append_assoc}
use Rattle.std.specs.List.{flat_map}
use Rattle.std.specs.Option.{option_map}
use Rattle.std.proofs.lemmas.List.{append-nil, flat_map_more, map_push}
use Rattle.sig_base.proofs.Lists.{seen_more}
use Rattle.model_core.specs.Text.Numbering.{◌>>=◌, each_numbered, Declared}
use Rattle.model_core.specs.Static.FaultOrder.{StaticFault}
use Rattle.model_core.specs.Static.Meanings.{Meaning}
use Rattle.static_laws.specs.Checked.{CheckedPart}
use Rattle.static_laws.proofs.Checks.{both, made}

each_shift : {B : Type 0} (o : Option B) (p : Option (List B)) (q : Option B)
    → (o >>= λ y. (p >>= λ ys. option_map (λ z. ys ++ z ∷ []) q) >>= λ zs. Some (y ∷ zs)) ≡ ((o >>= λ y. p >>= λ ys. Some (y ∷ ys)) >>= λ ys. option_map (λ z. ys ++ z ∷ []) q)
each_shift None p q = refl
each_shift (Some y) None q = refl
each_shift (Some y) (Some ys) None = refl
each_shift (Some y) (Some ys) (Some z) = refl

each_one : {B : Type 0} (o : Option B) → (o >>= λ y. Some (y ∷ [])) ≡ option_map (λ z. [] ++ z ∷ []) o
each_one None = refl
each_one (Some y) = refl

each-push : {W B : Type 0} (f : W → Option B) (xs : List W) (x : W) → each_numbered f (xs ++ x ∷ []) ≡ (each_numbered f xs >>= λ ys. option_map (λ z. ys ++ z ∷ []) (f x))
each-push f [] x = each_one (f x)
each-push {W} {B} f (z ∷ xs) x =
    ap (λ (r : Option (List B)). f z >>= λ y. r >>= λ zs. Some (y ∷ zs)) (each-push f xs x) ∙ each_shift (f z) (each_numbered f xs) (f x)

-- one number more
pub one_numbered_more : {W B : Type 0} (f : W → Option B) (xs : List W) (x : W) (ys : List B) (y : B) → each_numbered f xs ≡ Some ys → f x ≡ Some y → each_numbered f (xs ++ x ∷ []) ≡ Some (ys ++ y ∷ [])
one_numbered_more f xs x ys y e h = rw (each-push f xs x, e, h) refl

module _ (means : List ℕ → Option Meaning) {W B : Type 0} (F : W → List StaticFault) (f : Declared → W → Option B) where
  -- parts that are checked, and one more
  checked_more : {t0 t1 t2 : Option StaticFault} (seen more : List W) (x : W) (ys after : List B) (y : B) → more ≡ seen ++ x ∷ [] → after ≡ ys ++ y ∷ []
      → CheckedPart means t0 t1 (flat_map F seen) (λ d. each_numbered (f d) seen) ys → CheckedPart means t1 t2 (F x) (λ d. f d x) y
      → CheckedPart means t0 t2 (flat_map F more) (λ d. each_numbered (f d) more) after
  checked_more seen more x ys after y is put c e =
      rw (is, put, ← flat_map_more F [] seen x) (made (λ h d p. one_numbered_more (f d) seen x ys y (h.0 d p) (h.1 d p)) (both c e))

  -- a turn of a loop that checks parts
  pub turn : {X : Type 0} (w : X → W) (t0 t1 t2 : Option StaticFault) (raws : List X) (i : ℕ) (x : X) (ys after : List B) (y : B)
      → i < length raws → x ≡ get_or raws i x → after ≡ ys ++ y ∷ []
      → CheckedPart means t0 t1 (flat_map F (map w (take i raws))) (λ d. each_numbered (f d) (map w (take i raws))) ys
      → CheckedPart means t1 t2 (F (w x)) (λ d. f d (w x)) y
      → CheckedPart means t0 t2 (flat_map F (map w (take (i + 1) raws))) (λ d. each_numbered (f d) (map w (take (i + 1) raws))) after
  turn w t0 t1 t2 raws i x ys after y lt is put c d = checked_more (map w (take i raws)) (map w (take (i + 1) raws)) (w x) ys after y (seen_more w raws i x lt is) put c d

-- the parts of a list before those that are left are checked
pub record CheckedTo {X W A B : Type 0} (means : List ℕ → Option Meaning) (view : A → B) (w : X → W) (F : W → List StaticFault) (f : Declared → W → Option B) (t0 t1 : Option StaticFault) (raws left : List X) (done : List A) : Type 0 where
  pub seen : List X
  pub split : raws ≡ seen ++ left
  pub checked : CheckedPart means t0 t1 (flat_map F (map w seen)) (λ d. each_numbered (f d) (map w seen)) (map view done)

module _ (means : List ℕ → Option Meaning) {X W A B : Type 0} (view : A → B) (w : X → W) (F : W → List StaticFault) (f : Declared → W → Option B) where
  -- a turn of a loop that takes parts
  pub taken_turn : (t0 t1 t2 : Option StaticFault) (raws left later : List X) (x : X) (done after : List A) (y : A) → left ≡ x ∷ later → after ≡ done ++ y ∷ []
      → CheckedTo means view w F f t0 t1 raws left done → CheckedPart means t1 t2 (F (w x)) (λ d. f d (w x)) (view y) → CheckedTo means view w F f t0 t2 raws later after
  taken_turn t0 t1 t2 raws left later x done after y is put so_far c = record {
    seen = so_far.seen ++ x ∷ [];
    split = so_far.split ∙ ap (λ xs. so_far.seen ++ xs) is ∙ sym (append_assoc so_far.seen (x ∷ []) later);
    checked = checked_more means F f (map w so_far.seen) (map w (so_far.seen ++ x ∷ [])) (w x) (map view done) (map view after) (view y) (map_push w so_far.seen x) (rw put (map_push view done y)) so_far.checked c;
  }

  pub all_taken : (t0 t1 : Option StaticFault) (raws left : List X) (done : List A) → length left ≡ 0 → CheckedTo means view w F f t0 t1 raws left done
      → CheckedPart means t0 t1 (flat_map F (map w raws)) (λ d. each_numbered (f d) (map w raws)) (map view done)
  all_taken t0 t1 raws [] done none so_far = rw (so_far.split, append-nil so_far.seen) so_far.checked
  all_taken t0 t1 raws (x ∷ left) done none so_far = cc
