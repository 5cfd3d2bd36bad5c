-- The check of a whole from the checks of its parts.
use Rattle.std.proofs.Common.{◌≡◌, ℕ, List, [], ◌∷◌, ◌++◌, Option, Some, None, refl, ap, sym, ◌∙◌}
use Rattle.model_core.specs.Text.Numbering.{◌>>=◌, Declared}
use Rattle.model_core.specs.Static.FaultOrder.{StaticFault, earlier_fault, earliest_fault}
use Rattle.model_core.specs.Static.Meanings.{Meaning}
use Rattle.model_core.proofs.EmptyLists.{left_empty, right_empty}
use Rattle.static_laws.specs.Checked.{Checked, NumberedAs, CheckedPart, CheckedPlain}

pub earliest-append : (so_far : Option StaticFault) (fs gs : List StaticFault) → earliest_fault so_far (fs ++ gs) ≡ earliest_fault (earliest_fault so_far fs) gs
earliest-append so_far [] gs = refl
earliest-append so_far (f ∷ fs) gs = earliest-append (earlier_fault so_far f) fs gs

-- ---- first faults of parts, one after another

pub earliest_in_turn : (t0 t1 t2 : Option StaticFault) (fs gs : List StaticFault) → t1 ≡ earliest_fault t0 fs → t2 ≡ earliest_fault t1 gs → t2 ≡ earliest_fault t0 (fs ++ gs)
earliest_in_turn t0 t1 t2 fs gs e f = f ∙ ap (λ t. earliest_fault t gs) e ∙ sym (earliest-append t0 fs gs)

-- two parts, one after the other
pub both : {t0 t1 t2 : Option StaticFault} {fs gs : List StaticFault} {P Q : Type 0} → Checked t0 t1 fs P → Checked t1 t2 gs Q → Checked t0 t2 (fs ++ gs) (P × Q)
both {t0 = t0} {t1 = t1} {t2 = t2} {fs = fs} {gs = gs} c d = record {
  earliest = earliest_in_turn t0 t1 t2 fs gs c.earliest d.earliest;
  unbroken = λ e. (c.unbroken (left_empty fs gs e), d.unbroken (right_empty fs gs e));
}

-- what follows from what holds
pub made : {t0 t1 : Option StaticFault} {fs : List StaticFault} {P Q : Type 0} → (P → Q) → Checked t0 t1 fs P → Checked t0 t1 fs Q
made h c = record { earliest = c.earliest; unbroken = λ e. h (c.unbroken e) }

-- faults alone
pub noted : (t0 t1 : Option StaticFault) (fs : List StaticFault) → t1 ≡ earliest_fault t0 fs → Checked t0 t1 fs (fs ≡ [])
noted t0 t1 fs e = record { earliest = e; unbroken = λ h. h }

-- a part with more faults before it
pub after_faults : (t0 : Option StaticFault) {t1 t2 : Option StaticFault} {gs : List StaticFault} {P : Type 0} (fs : List StaticFault) → t1 ≡ earliest_fault t0 fs → Checked t1 t2 gs P → Checked t0 t2 (fs ++ gs) P
after_faults t0 {t1 = t1} fs e c = made (λ p. p.1) (both (noted t0 t1 fs e) c)

-- a part with more faults after it
pub before : {t0 t1 : Option StaticFault} (t2 : Option StaticFault) {fs : List StaticFault} {P : Type 0} (gs : List StaticFault) → Checked t0 t1 fs P → t2 ≡ earliest_fault t1 gs → Checked t0 t2 (fs ++ gs) P
before {t1 = t1} t2 gs c e = made (λ p. p.0) (both c (noted t1 t2 gs e))

-- ---- numbers from numbers

module _ (means : List ℕ → Option Meaning) where
  pub two_numbered : {A B C : Type 0} (h : A → B → C) (f : Declared → Option A) (g : Declared → Option B) {x : A} {y : B} → NumberedAs means f x → NumberedAs means g y
      → NumberedAs means (λ d. f d >>= λ a. g d >>= λ b. Some (h a b)) (h x y)
  two_numbered h f g n m = λ d p. rw (n d p, m d p) refl

  pub three_numbered : {A B C D : Type 0} (h : A → B → C → D) (f : Declared → Option A) (g : Declared → Option B) (k : Declared → Option C) {x : A} {y : B} {z : C} → NumberedAs means f x → NumberedAs means g y → NumberedAs means k z
      → NumberedAs means (λ d. f d >>= λ a. g d >>= λ b. k d >>= λ c. Some (h a b c)) (h x y z)
  three_numbered h f g k n m o = λ d p. rw (n d p, m d p, o d p) refl

  pub four_numbered : {A B C D E : Type 0} (h : A → B → C → D → E) (f : Declared → Option A) (g : Declared → Option B) (k : Declared → Option C) (l : Declared → Option D) {x : A} {y : B} {z : C} {w : D}
      → NumberedAs means f x → NumberedAs means g y → NumberedAs means k z → NumberedAs means l w
      → NumberedAs means (λ d. f d >>= λ a. g d >>= λ b. k d >>= λ c. l d >>= λ e. Some (h a b c e)) (h x y z w)
  four_numbered h f g k l n m o q = λ d p. rw (n d p, m d p, o d p, q d p) refl

-- ---- parts without names

-- no name means anything
abbrev pub no_meaning : List ℕ → Option Meaning
no_meaning name = None

pub as_part : {A : Type 0} {t0 t1 : Option StaticFault} {fs : List StaticFault} {o : Option A} {x : A} → CheckedPlain t0 t1 fs o x → CheckedPart no_meaning t0 t1 fs (λ d. o) x
as_part c = made (λ h d p. h) c

pub as_plain : {A : Type 0} {t0 t1 : Option StaticFault} {fs : List StaticFault} {o : Option A} {x : A} → CheckedPart no_meaning t0 t1 fs (λ d. o) x → CheckedPlain t0 t1 fs o x
as_plain c = made (λ h. h (record { variables = []; tables = []; vertices = [] }) (record { variable = λ name k kind array e. cc; table = λ name k e. cc; vertex = λ name k e. cc; no_variable = λ name k e. cc })) c
