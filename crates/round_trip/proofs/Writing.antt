-- From text to value in one step: the value that a format reads from a text, wherever it is, and how many openings it takes.
use Rattle.std.proofs.Common.{◌≡◌, ℕ, suc, ◌+◌, List, [], ◌∷◌, ◌++◌, length, refl, sym, ap, ◌∙◌, subst, inl, inr, arith, append_assoc, length-append}
use Rattle.std.specs.Prelude.{Option, Some, None}
use Rattle.sig_base.specs.declared.limits.TheConstants.{OPENINGS_MAX}
use Rattle.model_core.specs.Text.Lexing.{Lexeme}
use Rattle.model_core.specs.Text.Written.{WrittenExpression}
use Rattle.model_core.specs.Text.Format.{Yields, Apply, Either, Many, ByRule, Spells, ◌<*◌, ◌*>◌, maybe}
use Rattle.model_core.specs.Text.Expressions.{Level, LanguageFormat, level_format}
use Rattle.text_laws.specs.OpeningCount.{deep_from}
use Rattle.text_laws.proofs.Formats.RuleNesting.{by-format}
use Rattle.round_trip.proofs.TokenSteps.{Lexes, Lexes-at, Lexes-text, Lexes-space, Lexes-feed}

-- before any text
abbrev pub Any : List ℕ → Type 0
Any rest = Unit {0}

-- The text, before what F allows, is read by a format of the language as a value of which G holds, from tokens of its own,
-- whatever follows them. Where i openings were left to its part before it, j are left after it.
pub record Writes {A : Type 0} (f : LanguageFormat A) (text : List ℕ) (F : List ℕ → Type 0) (i j : ℕ) (G : A → Type 0) : Type 0 where
  pub run : (at : ℕ) → (v : A) × (ts : List Lexeme) × G v
      × ((left : List Lexeme) → (deep_from OPENINGS_MAX i (ts ++ left) ≡ deep_from OPENINGS_MAX j left) × Spells level_format f (ts ++ left) v left)
      × ((rest : List ℕ) (left : List Lexeme) → F rest → Lexes (at + length text) rest left → Lexes at (text ++ rest) (ts ++ left))

-- a function that takes what K holds of to what J holds of
pub record Takes {A B : Type 0} (K : A → Type 0) (J : B → Type 0) (f : A → B) : Type 0 where
  pub take : (x : A) → K x → J (f x)

pub takes : {A B : Type 0} {K : A → Type 0} {J : B → Type 0} {f : A → B} → ((x : A) → K x → J (f x)) → Takes K J f
takes h = record { take = h }

-- ---- parts in a row

pub writes-yields : {A : Type 0} (x : A) {F : List ℕ → Type 0} {i : ℕ} {G : A → Type 0} → G x → Writes (Yields x) [] F i i G
writes-yields x g = record { run = λ at. (x, [], g, λ left. (refl, (refl, refl)), λ rest left f h. Lexes-at (at + 0) at rest left (omega arith) h) }

-- the tokens of a text, and then those of another
pub lexed-both : {F H : List ℕ → Type 0} (a b : List ℕ) (at : ℕ) (ts us : List Lexeme)
    → ((rest : List ℕ) → H rest → F (b ++ rest))
    → ((rest : List ℕ) (left : List Lexeme) → F rest → Lexes (at + length a) rest left → Lexes at (a ++ rest) (ts ++ left))
    → ((rest : List ℕ) (left : List Lexeme) → H rest → Lexes ((at + length a) + length b) rest left → Lexes (at + length a) (b ++ rest) (us ++ left))
    → (rest : List ℕ) (left : List Lexeme) → H rest → Lexes (at + length (a ++ b)) rest left → Lexes at ((a ++ b) ++ rest) ((ts ++ us) ++ left)
lexed-both a b at ts us follows first second rest left h lexed =
    let later = second rest left h (Lexes-at (at + length (a ++ b)) ((at + length a) + length b) rest left (omega (arith, length-append a b)) lexed) in
    subst (λ (l : List Lexeme). Lexes at ((a ++ b) ++ rest) l) (sym (append_assoc ts us left))
    (Lexes-text at (a ++ (b ++ rest)) ((a ++ b) ++ rest) (ts ++ (us ++ left)) (sym (append_assoc a b rest)) (first (b ++ rest) (us ++ left) (follows rest h) later))

pub writes-then : {A B : Type 0} {p : LanguageFormat (A → B)} {q : LanguageFormat A} {a b : List ℕ} {F H : List ℕ → Type 0} {i j k : ℕ} {K : A → Type 0} {J : B → Type 0}
    → Writes p a F i j (Takes K J) → ((rest : List ℕ) → H rest → F (b ++ rest)) → Writes q b H j k K → Writes (Apply p q) (a ++ b) H i k J
writes-then {p = p} {q = q} {a = a} {b = b} {F = F} {H = H} {i = i} first follows second = record {
  run = λ at.
      let f = first.run at in
      let s = second.run (at + length a) in (
        f.0 s.0,
        f.1 ++ s.1,
        f.2.take s.0 s.2,
        λ left.
            let same = append_assoc f.1 s.1 left in (
              ap (deep_from OPENINGS_MAX i) same ∙ (f.3 (s.1 ++ left)).0 ∙ (s.3 left).0,
              subst (λ (l : List Lexeme). Spells level_format (Apply p q) l (f.0 s.0) left) (sym same) (f.0, s.1 ++ left, (f.3 (s.1 ++ left)).1, (s.0, left, (s.3 left).1, (refl, refl))),
            ),
        lexed-both {F = F} {H = H} a b at f.1 s.1 follows f.4 s.4,
      );
}

-- a function of one part
pub writes-made : {A B : Type 0} (g : A → B) {p : LanguageFormat A} {a : List ℕ} {F : List ℕ → Type 0} {i j : ℕ} {K : A → Type 0} {J : B → Type 0} → Writes p a F i j K → ((x : A) → K x → J (g x)) → Writes (Apply (Yields g) p) a F i j J
writes-made g part makes = writes-then {F = Any} (writes-yields g (takes makes)) (λ rest h. tt) part

pub writes-before : {A B : Type 0} {p : LanguageFormat A} {q : LanguageFormat B} {a b : List ℕ} {F H : List ℕ → Type 0} {i j k : ℕ} {G : A → Type 0} {K : B → Type 0}
    → Writes p a F i j G → ((rest : List ℕ) → H rest → F (b ++ rest)) → Writes q b H j k K → Writes (p <* q) (a ++ b) H i k G
writes-before {A} {B} {K = K} first follows second = writes-then (writes-made (λ x y. x) first (λ x g. takes (λ (y : B) h. g))) follows second

pub writes-after : {A B : Type 0} {p : LanguageFormat A} {q : LanguageFormat B} {a b : List ℕ} {F H : List ℕ → Type 0} {i j k : ℕ} {G : A → Type 0} {K : B → Type 0}
    → Writes p a F i j G → ((rest : List ℕ) → H rest → F (b ++ rest)) → Writes q b H j k K → Writes (p *> q) (a ++ b) H i k K
writes-after first follows second = writes-then (writes-made (λ x y. y) first (λ x g. takes (λ y h. h))) follows second

-- ---- the same said otherwise

pub writes-as : {A : Type 0} {f : LanguageFormat A} {a b : List ℕ} {F H : List ℕ → Type 0} {i j : ℕ} {G K : A → Type 0} → a ≡ b → ((rest : List ℕ) → H rest → F rest) → ((x : A) → G x → K x) → Writes f a F i j G → Writes f b H i j K
writes-as {f = f} {H = H} {i = i} {j = j} {K = K} e narrows widens first = subst (λ (t : List ℕ). Writes f t H i j K) e (record { run = λ at. let x = first.run at in (x.0, x.1, widens x.0 x.2, x.3, λ rest left h lexed. x.4 rest left (narrows rest h) lexed) })

pub writes-text : {A : Type 0} {f : LanguageFormat A} {a b : List ℕ} {F : List ℕ → Type 0} {i j : ℕ} {G : A → Type 0} → a ≡ b → Writes f a F i j G → Writes f b F i j G
writes-text {f = f} {F = F} {i = i} {j = j} {G = G} e first = subst (λ (t : List ℕ). Writes f t F i j G) e first

pub writes-room : {A : Type 0} {f : LanguageFormat A} {a : List ℕ} {F : List ℕ → Type 0} {i k j : ℕ} {G : A → Type 0} → i ≡ k → Writes f a F i j G → Writes f a F k j G
writes-room {f = f} {a = a} {F = F} {j = j} {G = G} e first = subst (λ (n : ℕ). Writes f a F n j G) e first

pub writes-widened : {A : Type 0} {f : LanguageFormat A} {a : List ℕ} {F : List ℕ → Type 0} {i j : ℕ} {G : A → Type 0} (K : A → Type 0) → ((x : A) → G x → K x) → Writes f a F i j G → Writes f a F i j K
writes-widened K widens first = record { run = λ at. let x = first.run at in (x.0, x.1, widens x.0 x.2, x.3, x.4) }

-- ---- one of two, none, and a rule

pub writes-left : {A : Type 0} {p q : LanguageFormat A} {a : List ℕ} {F : List ℕ → Type 0} {i j : ℕ} {G : A → Type 0} → Writes p a F i j G → Writes (Either p q) a F i j G
writes-left first = record { run = λ at. let f = first.run at in (f.0, f.1, f.2, λ left. ((f.3 left).0, inl (f.3 left).1), f.4) }

pub writes-right : {A : Type 0} {p q : LanguageFormat A} {a : List ℕ} {F : List ℕ → Type 0} {i j : ℕ} {G : A → Type 0} → Writes q a F i j G → Writes (Either p q) a F i j G
writes-right first = record { run = λ at. let f = first.run at in (f.0, f.1, f.2, λ left. ((f.3 left).0, inr (f.3 left).1), f.4) }

pub writes-some : {A : Type 0} {p : LanguageFormat A} {a : List ℕ} {F : List ℕ → Type 0} {i j : ℕ} {G : A → Type 0} {K : Option A → Type 0} → Writes p a F i j G → ((x : A) → G x → K (Some x)) → Writes (maybe p) a F i j K
writes-some first makes = writes-left (writes-made (λ x. Some x) first makes)

pub writes-nothing : {A : Type 0} {p : LanguageFormat A} {F : List ℕ → Type 0} {i : ℕ} {K : Option A → Type 0} → K None → Writes (maybe p) [] F i i K
writes-nothing k = writes-right (writes-yields None k)

pub writes-none : {A : Type 0} {p : LanguageFormat A} {F : List ℕ → Type 0} {i : ℕ} {G : List A → Type 0} → G [] → Writes (Many p) [] F i i G
writes-none g = record { run = λ at. ([], [], g, λ left. (refl, refl), λ rest left f h. Lexes-at (at + 0) at rest left (omega arith) h) }

pub writes-more : {A : Type 0} {p : LanguageFormat A} {a b : List ℕ} {F H : List ℕ → Type 0} {i j k : ℕ} {G : A → Type 0} {K L : List A → Type 0}
    → Writes p a F i j G → ((rest : List ℕ) → H rest → F (b ++ rest)) → Writes (Many p) b H j k K → ((x : A) (xs : List A) → G x → K xs → L (x ∷ xs)) → Writes (Many p) (a ++ b) H i k L
writes-more {p = p} {a = a} {b = b} {F = F} {H = H} {i = i} first follows second makes = record {
  run = λ at.
      let f = first.run at in
      let s = second.run (at + length a) in (
        f.0 ∷ s.0,
        f.1 ++ s.1,
        makes f.0 s.0 f.2 s.2,
        λ left.
            let same = append_assoc f.1 s.1 left in (
              ap (deep_from OPENINGS_MAX i) same ∙ (f.3 (s.1 ++ left)).0 ∙ (s.3 left).0,
              subst (λ (l : List Lexeme). Spells level_format (Many p) l (f.0 ∷ s.0) left) (sym same) (s.1 ++ left, (f.3 (s.1 ++ left)).1, (s.3 left).1),
            ),
        lexed-both {F = F} {H = H} a b at f.1 s.1 follows f.4 s.4,
      );
}

pub writes-rule : (r : Level) {a : List ℕ} {F : List ℕ → Type 0} {i j : ℕ} {G : WrittenExpression → Type 0} → Writes (level_format r) a F i j G → Writes (ByRule r) a F i j G
writes-rule r first = record { run = λ at. let f = first.run at in (f.0, f.1, f.2, λ left. ((f.3 left).0, by-format level_format r (f.1 ++ left) f.0 left (f.3 left).1), f.4) }

-- ---- blanks before and after

pub blank_before : {A : Type 0} {f : LanguageFormat A} {a : List ℕ} {F : List ℕ → Type 0} {i j : ℕ} {G : A → Type 0} → Writes f a F i j G → Writes f (32 ∷ a) F i j G
blank_before {a = a} first = record {
  run = λ at.
      let f = first.run (at + 1) in
      (f.0, f.1, f.2, f.3, λ rest left h lexed. Lexes-space at (a ++ rest) (f.1 ++ left) (f.4 rest left h (Lexes-at (at + suc (length a)) ((at + 1) + length a) rest left (omega arith) lexed)));
}

one_passed : {A : Type 0} {f : LanguageFormat A} {a : List ℕ} {F : List ℕ → Type 0} {i j : ℕ} {G : A → Type 0} (c : ℕ) → ((at : ℕ) (rest : List ℕ) (ts : List Lexeme) → Lexes (at + 1) rest ts → Lexes at (c ∷ rest) ts)
    → ((rest : List ℕ) → F (c ∷ rest)) → Writes f a F i j G → Writes f (a ++ c ∷ []) Any i j G
one_passed {a = a} c passes allowed first = record {
  run = λ at.
      let f = first.run at in (
        f.0,
        f.1,
        f.2,
        f.3,
        λ rest left h lexed.
            let later = Lexes-at (at + length (a ++ c ∷ [])) ((at + length a) + 1) rest left (omega (arith, length-append a (c ∷ []))) lexed in
            Lexes-text at (a ++ (c ∷ rest)) ((a ++ c ∷ []) ++ rest) (f.1 ++ left) (sym (append_assoc a (c ∷ []) rest)) (f.4 (c ∷ rest) left (allowed rest) (passes (at + length a) rest left later)),
      );
}

pub blank_after : {A : Type 0} {f : LanguageFormat A} {a : List ℕ} {F : List ℕ → Type 0} {i j : ℕ} {G : A → Type 0} → ((rest : List ℕ) → F (32 ∷ rest)) → Writes f a F i j G → Writes f (a ++ 32 ∷ []) Any i j G
blank_after allowed first = one_passed 32 Lexes-space allowed first

pub feed_after : {A : Type 0} {f : LanguageFormat A} {a : List ℕ} {F : List ℕ → Type 0} {i j : ℕ} {G : A → Type 0} → ((rest : List ℕ) → F (10 ∷ rest)) → Writes f a F i j G → Writes f (a ++ 10 ∷ []) Any i j G
feed_after allowed first = one_passed 10 Lexes-feed allowed first
