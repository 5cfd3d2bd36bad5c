-- A part of a written model beside the part that it names: nothing of it is broken exactly where it is numbered and what it names keeps rules.
use Rattle.std.proofs.Common.{◌≡◌, ◌↔◌, ℕ, Bool, true, false, List, [], ◌∷◌, ◌++◌, Option, Some, None, refl, sym, subst}
use Rattle.std.specs.List.{flat_map, AllByRecursion}
use Rattle.std.specs.Option.{option_map}
use Rattle.std.proofs.lemmas.Option.{same_Some}
use Rattle.model_core.specs.declared.static_kind.StaticKind.{StaticKind}
use Rattle.model_core.specs.Text.Numbering.{◌>>=◌, each_numbered, written_or}
use Rattle.model_core.specs.Static.FaultOrder.{StaticFault, fault_where}
use Rattle.model_core.specs.Static.PartFaults.{if_written}
use Rattle.model_core.proofs.EmptyLists.{left_empty, right_empty}

-- two lists are empty together
pub both_empty : {A : Type 0} (xs ys : List A) → xs ≡ [] → ys ≡ [] → xs ++ ys ≡ []
both_empty [] ys e f = f
both_empty (x ∷ xs) ys e f = cc

-- a rule is broken or not
pub broken_not : (b : Bool) (kind : StaticKind) (at : ℕ) → fault_where b kind at ≡ [] ↔ b ≡ false
broken_not true kind at = (λ e. cc, λ e. cc)
broken_not false kind at = (λ e. refl, λ e. refl)

-- faults, what the part is numbered as, and the rules that this keeps
pub record Twin {B : Type 0} (fs : List StaticFault) (o : Option B) (Keeps : B → Type 0) : Type 0 where
  pub kept : fs ≡ [] → (y : B) × (o ≡ Some y) × Keeps y
  pub unbroken : (y : B) → o ≡ Some y → Keeps y → fs ≡ []

-- the rules may be said otherwise
pub twin_as : {B : Type 0} (fs : List StaticFault) (o : Option B) (P Q : B → Type 0) → ((y : B) → o ≡ Some y → P y → Q y) → ((y : B) → o ≡ Some y → Q y → P y) → Twin fs o P → Twin fs o Q
twin_as fs o P Q to from t = record {
  kept = λ e. let (y, s, p) = t.kept e in (y, s, to y s p);
  unbroken = λ y s q. t.unbroken y s (from y s q);
}

pub twin_map : {A B : Type 0} (h : A → B) (fs : List StaticFault) (o : Option A) (P : A → Type 0) (Q : B → Type 0) → ((a : A) → P a → Q (h a)) → ((a : A) → Q (h a) → P a) → Twin fs o P → Twin fs (option_map h o) Q
twin_map h fs None P Q to from t = record {
  kept = λ e. let (y, s, p) = t.kept e in cc;
  unbroken = λ y s q. cc;
}
twin_map h fs (Some a) P Q to from t = record {
  kept = λ e. let (y, s, p) = t.kept e in (h a, refl, to a (subst P (sym (same_Some a y s)) p));
  unbroken = λ y s q. t.unbroken a refl (from a (subst Q (sym (same_Some (h a) y s)) q));
}

-- two parts of which one is made
pub twin_two : {A B C : Type 0} (h : A → B → C) (fs gs : List StaticFault) (o : Option A) (p : Option B) (P : A → Type 0) (Q : B → Type 0) (R : C → Type 0)
    → ((a : A) (b : B) → P a → Q b → R (h a b)) → ((a : A) (b : B) → R (h a b) → P a × Q b)
    → Twin fs o P → Twin gs p Q → Twin (fs ++ gs) (o >>= λ a. p >>= λ b. Some (h a b)) R
twin_two h fs gs None p P Q R to from t u = record {
  kept = λ e. let (y, s, k) = t.kept (left_empty fs gs e) in cc;
  unbroken = λ y s r. cc;
}
twin_two h fs gs (Some a) None P Q R to from t u = record {
  kept = λ e. let (y, s, k) = u.kept (right_empty fs gs e) in cc;
  unbroken = λ y s r. cc;
}
twin_two h fs gs (Some a) (Some b) P Q R to from t u = record {
  kept = λ e. let (y, s, k) = t.kept (left_empty fs gs e) in let (z, r, l) = u.kept (right_empty fs gs e) in (h a b, refl, to a b (subst P (sym (same_Some a y s)) k) (subst Q (sym (same_Some b z r)) l));
  unbroken = λ y s r. let both = from a b (subst R (sym (same_Some (h a b) y s)) r) in both_empty fs gs (t.unbroken a refl both.0) (u.unbroken b refl both.1);
}

-- a part, and faults after it that may be its own
pub twin_then : {A B : Type 0} (fs gs : List StaticFault) (o : Option A) (f : A → Option B) (P : A → Type 0) (R : B → Type 0)
    → ((a : A) → P a → Twin gs (f a) R) → ((a : A) (y : B) → f a ≡ Some y → R y → P a) → Twin fs o P → Twin (fs ++ gs) (o >>= f) R
twin_then fs gs None f P R next from t = record {
  kept = λ e. let (a, s, p) = t.kept (left_empty fs gs e) in cc;
  unbroken = λ y s r. cc;
}
twin_then fs gs (Some a) f P R next from t = record {
  kept = λ e. let (b, s, p) = t.kept (left_empty fs gs e) in (next a (subst P (sym (same_Some a b s)) p)).kept (right_empty fs gs e);
  unbroken = λ y s r. let p = from a y s r in both_empty fs gs (t.unbroken a refl p) ((next a p).unbroken y s r);
}

-- further faults, which decide a fact of what the part is numbered as
pub twin_and : {B : Type 0} (fs gs : List StaticFault) (o : Option B) (P C : B → Type 0) → ((y : B) → o ≡ Some y → P y → (gs ≡ [] ↔ C y)) → Twin fs o P → Twin (fs ++ gs) o (λ y. P y × C y)
twin_and fs gs o P C iff t = record {
  kept = λ e. let (y, s, p) = t.kept (left_empty fs gs e) in (y, s, (p, (iff y s p).0 (right_empty fs gs e)));
  unbroken = λ y s q. both_empty fs gs (t.unbroken y s q.0) ((iff y s q.0).1 q.1);
}

pub twin_before : {B : Type 0} (gs fs : List StaticFault) (o : Option B) (C P : B → Type 0) → ((y : B) → o ≡ Some y → (gs ≡ [] ↔ C y)) → Twin fs o P → Twin (gs ++ fs) o (λ y. C y × P y)
twin_before gs fs o C P iff t = record {
  kept = λ e. let (y, s, p) = t.kept (right_empty gs fs e) in (y, s, ((iff y s).0 (left_empty gs fs e), p));
  unbroken = λ y s q. both_empty gs fs ((iff y s).1 q.0) (t.unbroken y s q.1);
}

-- faults before them, which decide another fact
pub twin_after : {B : Type 0} (gs fs : List StaticFault) (o : Option B) (C : Type 0) (P : B → Type 0) → (gs ≡ [] ↔ C) → Twin fs o P → Twin (gs ++ fs) o (λ y. C × P y)
twin_after gs fs o C P iff t = record {
  kept = λ e. let (y, s, p) = t.kept (right_empty gs fs e) in (y, s, (iff.0 (left_empty gs fs e), p));
  unbroken = λ y s q. both_empty gs fs (iff.1 q.0) (t.unbroken y s q.1);
}

-- ---- lists, and parts that may be left out

pub twin_each : {A B : Type 0} (faults : A → List StaticFault) (f : A → Option B) (P : B → Type 0) → ((x : A) → Twin (faults x) (f x) P) → (xs : List A) → Twin (flat_map faults xs) (each_numbered f xs) (AllByRecursion P)
twin_each faults f P twin [] = record { kept = λ e. ([], refl, tt); unbroken = λ y s q. refl }
twin_each faults f P twin (x ∷ xs) =
    twin_two (λ y ys. y ∷ ys) (faults x) (flat_map faults xs) (f x) (each_numbered f xs) P (AllByRecursion P) (AllByRecursion P)
    (λ a b p q. (p, q)) (λ a b r. r) (twin x) (twin_each faults f P twin xs)

-- the same where the written items keep a rule of their own
pub twin_each_with : {A B : Type 0} (faults : A → List StaticFault) (f : A → Option B) (C : A → Type 0) (P : B → Type 0) → ((x : A) → Twin (faults x) (f x) (λ y. C x × P y)) → (xs : List A) → Twin (flat_map faults xs) (each_numbered f xs) (λ ys. AllByRecursion C xs × AllByRecursion P ys)
twin_each_with faults f C P twin [] = record { kept = λ e. ([], refl, (tt, tt)); unbroken = λ y s q. refl }
twin_each_with faults f C P twin (x ∷ xs) =
    twin_two (λ y ys. y ∷ ys) (faults x) (flat_map faults xs) (f x) (each_numbered f xs) _ _ _
    (λ a b p q. ((p.0, q.0), (p.1, q.1))) (λ a b r. ((r.0.0, r.1.0), (r.0.1, r.1.1))) (twin x) (twin_each_with faults f C P twin xs)

pub twin_or : {A B : Type 0} (faults : A → List StaticFault) (f : A → Option B) (default : B) (P : B → Type 0) → P default → ((x : A) → Twin (faults x) (f x) P) → (o : Option A) → Twin (if_written faults o) (written_or f default o) P
twin_or faults f default P given twin None = record { kept = λ e. (default, refl, given); unbroken = λ y s q. refl }
twin_or faults f default P given twin (Some x) = twin x
