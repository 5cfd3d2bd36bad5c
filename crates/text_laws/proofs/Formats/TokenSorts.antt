-- Readings, and sets of sorts.
use denote.Enum.Bare.{same_true, true_same}
use lib.Pointwise.{bytes_decides}
use Rattle.std.proofs.Common.{◌≡◌, ℕ, ◌+◌, ◌≤◌, Bool, true, false, cond, List, [], ◌∷◌, ◌++◌, length, refl, sym, ap, ◌∙◌, subst, ◌⊎◌, inl, inr, arith}
use Rattle.std.specs.Prelude.{not, ◌||◌, Ok, Err}
use Rattle.std.proofs.lemmas.Bool.{or_right, not-true, and_parts, or_parts}
use Rattle.model_core.specs.contracts.token.Word.{the_type as word_type}
use Rattle.model_core.specs.contracts.token.Symbol.{the_type as symbol_type}
use Rattle.model_core.specs.Text.Lexing.{Lexeme, LexemeKind, NameOf, Reserved, NumberOf, Mark, same_bytes}
use Rattle.model_core.specs.Text.Format.{TokenSort, AName, ASpelled, ANumber, AWord, ASymbol, sort_as, single}
use Rattle.text_laws.specs.FirstTokens.{same_sort, among, can_be_both, can_be_among, begins_as, begins_among, apart, subset}
use Rattle.text_laws.specs.FormatReader.{Parse, Parser, took, stuck, and_next, single_at}

-- ---- tests

pub chosen : {A : Type 0} (b : Bool) (x y z : A) → cond b x y ≡ z → ((b ≡ true) × (x ≡ z)) ⊎ ((b ≡ false) × (y ≡ z))
chosen true x y z e = inl (refl, e)
chosen false x y z e = inr (refl, e)

-- ---- readings

pub same_reading : {A : Type 0} (x y : A) (s t : List Lexeme) → took x s ≡ took y t → (x ≡ y) × (s ≡ t)
same_reading {A} x y s t e = let p : ◌≡◌ {A = A × List Lexeme} (x, s) (y, t) = cc in (ap (λ (r : A × List Lexeme). r.0) p, ap (λ (r : A × List Lexeme). r.1) p)

pub reading_of : {A : Type 0} (x y : A) (s t : List Lexeme) → x ≡ y → s ≡ t → took x s ≡ took y t
reading_of x y s t e f = cc

pub then_ok : {A B : Type 0} (next : A → Parser B) (r : Parse A) (y : B) (left : List Lexeme) → and_next next r ≡ Ok (y, left) → (x : A) × (between : List Lexeme) × (r ≡ Ok (x, between)) × (next x between ≡ Ok (y, left))
then_ok next (Ok r) y left e = (r.0, r.1, refl, e)
then_ok next (Err rest) y left e = absurd cc

-- ---- sets of sorts

pub same_sort-true : (r s : TokenSort) → same_sort r s ≡ true → r ≡ s
same_sort-true AName AName e = refl
same_sort-true (ASpelled a) (ASpelled b) e = ap ASpelled ((bytes_decides a b).0 e)
same_sort-true ANumber ANumber e = refl
same_sort-true (AWord v) (AWord w) e = ap AWord (same_true word_type tt v w e)
same_sort-true (ASymbol v) (ASymbol w) e = ap ASymbol (same_true symbol_type tt v w e)
same_sort-true _ _ e = absurd cc

pub same_sort-refl : (s : TokenSort) → same_sort s s ≡ true
same_sort-refl AName = refl
same_sort-refl (ASpelled bytes) = (bytes_decides bytes bytes).1 refl
same_sort-refl ANumber = refl
same_sort-refl (AWord w) = true_same word_type w w refl
same_sort-refl (ASymbol s) = true_same symbol_type s s refl

pub begins-none : (xs : List TokenSort) → begins_among xs [] ≡ false
begins-none [] = refl
begins-none (x ∷ xs) = begins-none xs

pub begins-append : (xs ys : List TokenSort) (tokens : List Lexeme) → begins_among (xs ++ ys) tokens ≡ (begins_among xs tokens || begins_among ys tokens)
begins-append [] ys tokens = refl
begins-append (x ∷ xs) ys tokens = pick (begins_as x tokens) (begins_among xs tokens) (begins_among ys tokens) (begins_among (xs ++ ys) tokens) (begins-append xs ys tokens)
  where
    pick : (a b c d : Bool) → d ≡ (b || c) → (a || d) ≡ ((a || b) || c)
    pick true b c d e = refl
    pick false b c d e = e

pub begins-some : (xs : List TokenSort) → begins_among xs [] ≡ true → ⊥
begins-some xs e = let f : begins_among xs [] ≡ false = begins-none xs in absurd cc

pub begins-left : (xs ys : List TokenSort) (tokens : List Lexeme) → begins_among xs tokens ≡ true → begins_among (xs ++ ys) tokens ≡ true
begins-left xs ys tokens e = rw (begins-append xs ys tokens, e) refl

pub begins-right : (xs ys : List TokenSort) (tokens : List Lexeme) → begins_among ys tokens ≡ true → begins_among (xs ++ ys) tokens ≡ true
begins-right xs ys tokens e = begins-append xs ys tokens ∙ or_right (begins_among xs tokens) (begins_among ys tokens) e

pub stops-both : (xs ys : List TokenSort) (tokens : List Lexeme) → begins_among (xs ++ ys) tokens ≡ false → (begins_among xs tokens ≡ false) × (begins_among ys tokens ≡ false)
stops-both xs ys tokens e = or_parts (begins_among xs tokens) (begins_among ys tokens) (sym (begins-append xs ys tokens) ∙ e)

-- a token is of both sorts only where they meet
same-spelling : (a b c : List ℕ) → same_bytes a b ≡ true → same_bytes a c ≡ true → same_bytes b c ≡ true
same-spelling a b c e h = subst (λ (z : List ℕ). same_bytes z c ≡ true) ((bytes_decides a b).0 e) h

both-meet : (k : LexemeKind) (x y : TokenSort) → same_sort (sort_as x k) x ≡ true → same_sort (sort_as y k) y ≡ true → can_be_both x y ≡ true
both-meet (NameOf a) AName AName e h = refl
both-meet (NameOf a) AName (ASpelled c) e h = refl
both-meet (NameOf a) (ASpelled b) AName e h = refl
both-meet (NameOf a) (ASpelled b) (ASpelled c) e h = same-spelling a b c e h
both-meet (NameOf a) x y e h = absurd cc
both-meet (Reserved w) (AWord u) (AWord v) e h = subst (λ (z : TokenSort). same_sort z (AWord v) ≡ true) (same_sort-true (AWord w) (AWord u) e) h
both-meet (Reserved w) x y e h = absurd cc
both-meet (NumberOf n m) ANumber ANumber e h = refl
both-meet (NumberOf n m) x y e h = absurd cc
both-meet (Mark m) (ASymbol u) (ASymbol v) e h = subst (λ (z : TokenSort). same_sort z (ASymbol v) ≡ true) (same_sort-true (ASymbol m) (ASymbol u) e) h
both-meet (Mark m) x y e h = absurd cc

met : (x : TokenSort) (ys : List TokenSort) (t : Lexeme) (tokens : List Lexeme) → same_sort (sort_as x t.kind) x ≡ true → begins_among ys (t ∷ tokens) ≡ true → can_be_among x ys ≡ true
met x [] t tokens e h = absurd cc
met x (y ∷ ys) t tokens e h = pick (same_sort (sort_as y t.kind) y) refl h (λ g. met x ys t tokens e g)
  where
    pick : (c : Bool) → same_sort (sort_as y t.kind) y ≡ c → (c || begins_among ys (t ∷ tokens)) ≡ true → (begins_among ys (t ∷ tokens) ≡ true → can_be_among x ys ≡ true) → (can_be_both x y || can_be_among x ys) ≡ true
    pick true f g later = ap (λ b. b || can_be_among x ys) (both-meet t.kind x y e f)
    pick false f g later = or_right (can_be_both x y) (can_be_among x ys) (later g)

pub begins-apart : (xs ys : List TokenSort) (tokens : List Lexeme) → apart xs ys ≡ true → begins_among ys tokens ≡ true → begins_among xs tokens ≡ false
begins-apart xs ys [] a e = begins-none xs
begins-apart [] ys (t ∷ tokens) a e = refl
begins-apart (x ∷ xs) ys (t ∷ tokens) a e =
    let b = and_parts (not (can_be_among x ys)) (apart xs ys) a in
    pick (same_sort (sort_as x t.kind) x) refl (begins-apart xs ys (t ∷ tokens) b.1 e) (not-true (can_be_among x ys) b.0)
  where
    pick : (c : Bool) → same_sort (sort_as x t.kind) x ≡ c → begins_among xs (t ∷ tokens) ≡ false → can_be_among x ys ≡ false → (c || begins_among xs (t ∷ tokens)) ≡ false
    pick true f g h = absurd (let i : can_be_among x ys ≡ true = met x ys t tokens f e in cc)
    pick false f g h = g

begins-listed : (x : TokenSort) (ys : List TokenSort) (t : Lexeme) (tokens : List Lexeme) → among x ys ≡ true → same_sort (sort_as x t.kind) x ≡ true → begins_among ys (t ∷ tokens) ≡ true
begins-listed x [] t tokens a e = absurd cc
begins-listed x (y ∷ ys) t tokens a e = pick (same_sort x y) refl a (λ h. begins-listed x ys t tokens h e)
  where
    pick : (c : Bool) → same_sort x y ≡ c → (c || among x ys) ≡ true → (among x ys ≡ true → begins_among ys (t ∷ tokens) ≡ true) → (same_sort (sort_as y t.kind) y || begins_among ys (t ∷ tokens)) ≡ true
    pick true f g later = ap (λ b. b || begins_among ys (t ∷ tokens)) (subst (λ (z : TokenSort). same_sort (sort_as z t.kind) z ≡ true) (same_sort-true x y f) e)
    pick false f g later = or_right (same_sort (sort_as y t.kind) y) (begins_among ys (t ∷ tokens)) (later g)

pub begins-subset : (xs ys : List TokenSort) (tokens : List Lexeme) → subset xs ys ≡ true → begins_among xs tokens ≡ true → begins_among ys tokens ≡ true
begins-subset xs ys [] a e = absurd (begins-some xs e)
begins-subset [] ys (t ∷ tokens) a e = absurd cc
begins-subset (x ∷ xs) ys (t ∷ tokens) a e =
    let b = and_parts (among x ys) (subset xs ys) a in
    pick (same_sort (sort_as x t.kind) x) refl e b.0 (λ h. begins-subset xs ys (t ∷ tokens) b.1 h)
  where
    pick : (c : Bool) → same_sort (sort_as x t.kind) x ≡ c → (c || begins_among xs (t ∷ tokens)) ≡ true → among x ys ≡ true → (begins_among xs (t ∷ tokens) ≡ true → begins_among ys (t ∷ tokens) ≡ true) → begins_among ys (t ∷ tokens) ≡ true
    pick true f g h later = begins-listed x ys t tokens h f
    pick false f g h later = later g

pub stops-subset : (xs ys : List TokenSort) (tokens : List Lexeme) → subset xs ys ≡ true → begins_among ys tokens ≡ false → begins_among xs tokens ≡ false
stops-subset xs ys tokens a e = pick (begins_among xs tokens) refl
  where
    pick : (b : Bool) → begins_among xs tokens ≡ b → begins_among xs tokens ≡ false
    pick true f = absurd (let g : begins_among ys tokens ≡ true = begins-subset xs ys tokens a f in cc)
    pick false f = f

-- ---- one token

passed : {A : Type 0} (b : Bool) (x y : A) (s t rest : List Lexeme) → cond b (took x s) (stuck rest) ≡ took y t → (b ≡ true) × (x ≡ y) × (s ≡ t)
passed true x y s t rest e = let r = same_reading x y s t e in (refl, r.0, r.1)
passed false x y s t rest e = absurd cc

pub token-sound : {A : Type 0} (s : TokenSort) (f : Lexeme → A) (tokens : List Lexeme) (x : A) (left : List Lexeme) → single_at s f tokens ≡ Ok (x, left) → single s f tokens x left
token-sound s f [] x left e = absurd cc
token-sound s f (t ∷ tokens) x left e = let p = passed (same_sort (sort_as s t.kind) s) (f t) x tokens left (t ∷ tokens) e in (same_sort-true (sort_as s t.kind) s p.0, p.1, p.2)

pub token-complete : {A : Type 0} (s : TokenSort) (f : Lexeme → A) (tokens : List Lexeme) (x : A) (left : List Lexeme) → single s f tokens x left → single_at s f tokens ≡ Ok (x, left)
token-complete s f [] x left d = absurd d
token-complete s f (t ∷ tokens) x left d = let e : same_sort (sort_as s t.kind) s ≡ true = subst (λ (z : TokenSort). same_sort (sort_as s t.kind) z ≡ true) d.0 (same_sort-refl (sort_as s t.kind)) in rw e (reading_of (f t) x tokens left d.1 d.2)

pub token-begins : {A : Type 0} (s : TokenSort) (f : Lexeme → A) (tokens : List Lexeme) (x : A) (left : List Lexeme) → single s f tokens x left → begins_among (s ∷ []) tokens ≡ true
token-begins s f [] x left d = absurd d
token-begins s f (t ∷ tokens) x left d = let e : same_sort (sort_as s t.kind) s ≡ true = subst (λ (z : TokenSort). same_sort (sort_as s t.kind) z ≡ true) d.0 (same_sort-refl (sort_as s t.kind)) in rw e refl

one_shorter : (t : Lexeme) (tokens left : List Lexeme) → tokens ≡ left → length left + 1 ≤ length (t ∷ tokens)
one_shorter t tokens left e = rw e (omega arith)

pub token-shorter : {A : Type 0} (s : TokenSort) (f : Lexeme → A) (tokens : List Lexeme) (x : A) (left : List Lexeme) → single s f tokens x left → length left + 1 ≤ length tokens
token-shorter s f [] x left d = absurd d
token-shorter s f (t ∷ tokens) x left d = one_shorter t tokens left d.2
