-- The laws of formats, each by induction over formats: the reader takes what is derived, and all that is derived.
use Rattle.std.proofs.Common.{◌≡◌, ℕ, zero, suc, ◌+◌, ◌≤◌, Bool, true, false, cond, List, [], ◌∷◌, ◌++◌, length, refl, sym, ap, ◌∙◌, subst, ◌⊎◌, inl, inr, arith}
use Rattle.std.specs.Prelude.{not, ◌&&◌, ◌||◌, Ok}
use Rattle.std.proofs.lemmas.Bool.{and_from, or_left, or_right, not-true, and_parts}
use Rattle.model_core.specs.Text.Lexing.{Lexeme}
use Rattle.model_core.specs.Text.Grammar.{Grammar, many}
use Rattle.model_core.specs.Text.Format.{TokenSort, Format, Yields, Single, Apply, Either, Many, ByRule, derives}
use Rattle.text_laws.specs.FirstTokens.{begins_among, apart, Lookahead, nullable, first_sorts, stop_sorts, fine}
use Rattle.text_laws.specs.FormatReader.{Parser, took, stuck, and_next, many_within, many_at, reads}
use Rattle.text_laws.proofs.Formats.TokenSorts.{chosen, same_reading, reading_of, then_ok, begins-left, begins-right, begins-some, stops-both, begins-apart, token-sound, token-complete, token-begins, token-shorter}

-- ---- what is read is derived

abbrev pub Sound : {A : Type 0} → Grammar A → Parser A → Type 0
Sound {A} P p = (tokens : List Lexeme) (x : A) (left : List Lexeme) → p tokens ≡ Ok (x, left) → P tokens x left

many-from : {A : Type 0} (P : Grammar A) (tokens : List Lexeme) (xs ys : List A) (rest left : List Lexeme) → xs ≡ ys → rest ≡ left → many P tokens xs rest → many P tokens ys left
many-from P tokens xs ys rest left e f d = subst (λ zs. many P tokens zs left) e (subst (λ l. many P tokens xs l) f d)

repeated-sound : {A : Type 0} (P : Grammar A) (p : Parser A) → Sound P p → (n : ℕ) (sorts : List TokenSort) (tokens : List Lexeme) (xs : List A) (left : List Lexeme) → many_within n sorts p tokens ≡ Ok (xs, left) → many P tokens xs left
unfolding many_within
repeated-sound P p sound zero sorts tokens xs left e = elim (chosen (begins_among sorts tokens) (stuck tokens) (took [] tokens) (took xs left) e) [
  | inl w ↦ absurd (let f = w.1 in cc)
  | inr w ↦ let r = same_reading [] xs tokens left w.1 in many-from P tokens [] xs tokens left r.0 r.1 refl
]
repeated-sound P p sound (suc n) sorts tokens xs left e =
    elim (chosen (begins_among sorts tokens) (and_next (λ x rest. and_next (λ ys end. Ok (x ∷ ys, end)) (many_within n sorts p rest)) (p tokens)) (took [] tokens) (took xs left) e) [
      | inl w ↦
          let s = then_ok (λ x rest. and_next (λ ys end. Ok (x ∷ ys, end)) (many_within n sorts p rest)) (p tokens) xs left w.1 in
          let u = then_ok (λ ys end. Ok (s.0 ∷ ys, end)) (many_within n sorts p s.1) xs left s.3 in
          let r = same_reading (s.0 ∷ u.0) xs u.1 left u.3 in
          many-from P tokens (s.0 ∷ u.0) xs u.1 left r.0 r.1 (s.1, sound tokens s.0 s.1 s.2, repeated-sound P p sound n sorts s.1 u.0 u.1 u.2)
      | inr w ↦ let r = same_reading [] xs tokens left w.1 in many-from P tokens [] xs tokens left r.0 r.1 refl
    ]

pub reads-sound : {R V A : Type 0} (t : Lookahead R) (env : R → Grammar V) (reader : R → Parser V) → ((r : R) → Sound (env r) (reader r)) → (f : Format R V A) → Sound (derives env f) (reads t reader f)
unfolding many_at
reads-sound t env reader rules (Yields x) tokens y left e = same_reading x y tokens left e
reads-sound t env reader rules (Single s f) tokens y left e = token-sound s f tokens y left e
reads-sound t env reader rules (Apply p q) tokens y left e =
    let s = then_ok (λ f between. and_next (λ x rest. Ok (f x, rest)) (reads t reader q between)) (reads t reader p tokens) y left e in
    let u = then_ok (λ x rest. Ok (s.0 x, rest)) (reads t reader q s.1) y left s.3 in
    (s.0, s.1, reads-sound t env reader rules p tokens s.0 s.1 s.2, (u.0, u.1, reads-sound t env reader rules q s.1 u.0 u.1 u.2, same_reading (s.0 u.0) y u.1 left u.3))
reads-sound t env reader rules (Either p q) tokens y left e = elim (chosen (begins_among (first_sorts t p) tokens) (reads t reader p tokens) (reads t reader q tokens) (took y left) e) [
  | inl w ↦ inl (reads-sound t env reader rules p tokens y left w.1)
  | inr w ↦ inr (reads-sound t env reader rules q tokens y left w.1)
]
reads-sound t env reader rules (Many p) tokens y left e = repeated-sound (derives env p) (reads t reader p) (reads-sound t env reader rules p) (length tokens) (first_sorts t p) tokens y left e
reads-sound t env reader rules (ByRule r) tokens y left e = rules r tokens y left e

-- ---- how what is derived begins

-- what is derived begins with one of these sorts, or is nothing
abbrev pub Begins : {A : Type 0} → Grammar A → List TokenSort → Bool → Type 0
Begins {A} P sorts empty = (tokens : List Lexeme) (x : A) (left : List Lexeme) → P tokens x left → (begins_among sorts tokens ≡ true) ⊎ ((empty ≡ true) × (tokens ≡ left))

choose : (sorts : List TokenSort) (b : Bool) (more : List TokenSort) (tokens : List Lexeme) → begins_among sorts tokens ≡ true → begins_among (cond b (sorts ++ more) sorts) tokens ≡ true
choose sorts true more tokens e = begins-left sorts more tokens e
choose sorts false more tokens e = e

choose_more : (sorts : List TokenSort) (b : Bool) (more : List TokenSort) (tokens : List Lexeme) → b ≡ true → begins_among more tokens ≡ true → begins_among (cond b (sorts ++ more) sorts) tokens ≡ true
choose_more sorts true more tokens f e = begins-right sorts more tokens e
choose_more sorts false more tokens f e = absurd cc

many-begins : {A : Type 0} (P : Grammar A) (sorts : List TokenSort) (b : Bool) → Begins P sorts b → Begins (many P) sorts true
many-begins P sorts b part tokens [] left d = inr (refl, d)
many-begins P sorts b part tokens (x ∷ xs) left d = elim (part tokens x d.0 d.1) [
  | inl w ↦ inl w
  | inr w ↦ elim (many-begins P sorts b part d.0 xs left d.2) [
    | inl v ↦ inl (subst (λ (l : List Lexeme). begins_among sorts l ≡ true) (sym w.1) v)
    | inr v ↦ inr (refl, w.1 ∙ v.1)
  ]
]

pub derives-begins : {R V A : Type 0} (t : Lookahead R) (env : R → Grammar V) → ((r : R) → Begins (env r) (t.first_of r) false) → (f : Format R V A) → Begins (derives env f) (first_sorts t f) (nullable f)
derives-begins t env rules (Yields x) tokens y left d = inr (refl, d.1)
derives-begins t env rules (Single s f) tokens y left d = inl (token-begins s f tokens y left d)
derives-begins t env rules (Apply p q) tokens y left d = elim (derives-begins t env rules p tokens d.0 d.1 d.2) [
  | inl w ↦ inl (choose (first_sorts t p) (nullable p) (first_sorts t q) tokens w)
  | inr w ↦ elim (derives-begins t env rules q d.1 d.3.0 d.3.1 d.3.2) [
    | inl v ↦ inl (choose_more (first_sorts t p) (nullable p) (first_sorts t q) tokens w.0 (subst (λ (l : List Lexeme). begins_among (first_sorts t q) l ≡ true) (sym w.1) v))
    | inr v ↦ inr (and_from (nullable p) (nullable q) w.0 v.0, w.1 ∙ v.1 ∙ d.3.3.1)
  ]
]
derives-begins t env rules (Either p q) tokens y left d = elim d [
  | inl u ↦ elim (derives-begins t env rules p tokens y left u) [
    | inl w ↦ inl (begins-left (first_sorts t p) (first_sorts t q) tokens w)
    | inr w ↦ inr (or_left (nullable p) (nullable q) w.0, w.1)
  ]
  | inr u ↦ elim (derives-begins t env rules q tokens y left u) [
    | inl w ↦ inl (begins-right (first_sorts t p) (first_sorts t q) tokens w)
    | inr w ↦ inr (or_right (nullable p) (nullable q) w.0, w.1)
  ]
]
derives-begins t env rules (Many p) tokens y left d = many-begins (derives env p) (first_sorts t p) (nullable p) (derives-begins t env rules p) tokens y left d
derives-begins t env rules (ByRule r) tokens y left d = rules r tokens y left d

-- ---- what is derived is read

-- all that is derived, where what is left can't go on with it, is read
abbrev pub Complete : {A : Type 0} → Grammar A → Parser A → List TokenSort → Type 0
Complete {A} P p sorts = (tokens : List Lexeme) (x : A) (left : List Lexeme) → begins_among sorts left ≡ false → P tokens x left → p tokens ≡ took x left

-- what is derived takes a token at least
abbrev pub Shorter : {A : Type 0} → Parser A → Bool → Type 0
Shorter {A} p empty = (tokens : List Lexeme) (x : A) (left : List Lexeme) → p tokens ≡ took x left → length left + cond empty 0 1 ≤ length tokens

same-length : (s t : List Lexeme) → s ≡ t → length t + 0 ≤ length s
same-length s t e = rw e (omega arith)

repeated-shorter : {A : Type 0} (p : Parser A) (b : Bool) → Shorter p b → (n : ℕ) (sorts : List TokenSort) → Shorter (many_within n sorts p) true
unfolding many_within
repeated-shorter p b part zero sorts tokens xs left e = elim (chosen (begins_among sorts tokens) (stuck tokens) (took [] tokens) (took xs left) e) [
  | inl w ↦ absurd (let f = w.1 in cc)
  | inr w ↦ same-length tokens left (same_reading [] xs tokens left w.1).1
]
repeated-shorter p b part (suc n) sorts tokens xs left e =
    elim (chosen (begins_among sorts tokens) (and_next (λ x rest. and_next (λ ys end. Ok (x ∷ ys, end)) (many_within n sorts p rest)) (p tokens)) (took [] tokens) (took xs left) e) [
      | inl w ↦
          let s = then_ok (λ x rest. and_next (λ ys end. Ok (x ∷ ys, end)) (many_within n sorts p rest)) (p tokens) xs left w.1 in
          let u = then_ok (λ ys end. Ok (s.0 ∷ ys, end)) (many_within n sorts p s.1) xs left s.3 in
          let r = same_reading (s.0 ∷ u.0) xs u.1 left u.3 in
          let a = part tokens s.0 s.1 s.2 in
          let c = repeated-shorter p b part n sorts s.1 u.0 u.1 u.2 in
          let g = ap length r.1 in omega arith
      | inr w ↦ same-length tokens left (same_reading [] xs tokens left w.1).1
    ]

and-cost : (a b : Bool) (k l m : ℕ) → l + cond b 0 1 ≤ m → m + cond a 0 1 ≤ k → l + cond (a && b) 0 1 ≤ k
and-cost true b k l m h g = omega arith
and-cost false true k l m h g = omega arith
and-cost false false k l m h g = omega arith

or-cost : (a b : Bool) (k l : ℕ) → (l + cond a 0 1 ≤ k) ⊎ (l + cond b 0 1 ≤ k) → l + cond (a || b) 0 1 ≤ k
or-cost true true k l h = elim h [ inl w ↦ w | inr w ↦ w ]
or-cost true false k l h = elim h [ inl w ↦ w | inr w ↦ omega arith ]
or-cost false b k l h = elim h [ inl w ↦ less b w | inr w ↦ w ]
  where
    less : (b : Bool) → l + 1 ≤ k → l + cond b 0 1 ≤ k
    less true w = omega arith
    less false w = w

pub reads-shorter : {R V A : Type 0} (t : Lookahead R) (reader : R → Parser V) → ((r : R) → Shorter (reader r) false) → (f : Format R V A) → Shorter (reads t reader f) (nullable f)
unfolding many_at
reads-shorter t reader rules (Yields x) tokens y left e = same-length tokens left (same_reading x y tokens left e).1
reads-shorter t reader rules (Single s f) tokens y left e = token-shorter s f tokens y left (token-sound s f tokens y left e)
reads-shorter t reader rules (Apply p q) tokens y left e =
    let s = then_ok (λ f between. and_next (λ x rest. Ok (f x, rest)) (reads t reader q between)) (reads t reader p tokens) y left e in
    let u = then_ok (λ x rest. Ok (s.0 x, rest)) (reads t reader q s.1) y left s.3 in
    let r = same_reading (s.0 u.0) y u.1 left u.3 in
    subst (λ (l : List Lexeme). length l + cond (nullable p && nullable q) 0 1 ≤ length tokens) r.1 (and-cost (nullable p) (nullable q) (length tokens) (length u.1) (length s.1) (reads-shorter t reader rules q s.1 u.0 u.1 u.2) (reads-shorter t reader rules p tokens s.0 s.1 s.2))
reads-shorter t reader rules (Either p q) tokens y left e = or-cost (nullable p) (nullable q) (length tokens) (length left) (elim (chosen (begins_among (first_sorts t p) tokens) (reads t reader p tokens) (reads t reader q tokens) (took y left) e) [
  | inl w ↦ inl (reads-shorter t reader rules p tokens y left w.1)
  | inr w ↦ inr (reads-shorter t reader rules q tokens y left w.1)
])
reads-shorter t reader rules (Many p) tokens y left e = repeated-shorter (reads t reader p) (nullable p) (reads-shorter t reader rules p) (length tokens) (first_sorts t p) tokens y left e
reads-shorter t reader rules (ByRule r) tokens y left e = rules r tokens y left e

-- ---- completeness

repeated-complete : {A : Type 0} (P : Grammar A) (p : Parser A) (sorts more : List TokenSort) → Begins P sorts false → Complete P p more → Shorter p false → apart more sorts ≡ true
    → (n : ℕ) (tokens : List Lexeme) (xs : List A) (left : List Lexeme) → length tokens ≤ n → begins_among more left ≡ false → begins_among sorts left ≡ false → many P tokens xs left → many_within n sorts p tokens ≡ took xs left
unfolding many_within
repeated-complete P p sorts more starts part shorter a zero tokens [] left few h stop d = let e : begins_among sorts tokens ≡ false = rw d stop in rw e (ap (λ (l : List Lexeme). took [] l) d)
repeated-complete P p sorts more starts part shorter a (suc n) tokens [] left few h stop d = let e : begins_among sorts tokens ≡ false = rw d stop in rw e (ap (λ (l : List Lexeme). took [] l) d)
repeated-complete P p sorts more starts part shorter a zero [] (x ∷ xs) left few h stop d = elim (starts [] x d.0 d.1) [ inl w ↦ absurd (begins-some sorts w) | inr w ↦ absurd (let f = w.0 in cc) ]
repeated-complete P p sorts more starts part shorter a zero (t ∷ tokens) (x ∷ xs) left few h stop d = absurd (omega arith)
repeated-complete P p sorts more starts part shorter a (suc n) tokens (x ∷ xs) left few h stop d =
    let b : begins_among sorts tokens ≡ true = elim (starts tokens x d.0 d.1) [ inl w ↦ w | inr w ↦ absurd (let f = w.0 in cc) ] in
    let follow : begins_among more d.0 ≡ false = elim (many-begins P sorts false starts d.0 xs left d.2) [
      | inl w ↦ begins-apart more sorts d.0 a w
      | inr w ↦ subst (λ (l : List Lexeme). begins_among more l ≡ false) (sym w.1) h
    ] in
    let one : p tokens ≡ took x d.0 = part tokens x d.0 follow d.1 in
    let s : length d.0 + 1 ≤ length tokens = shorter tokens x d.0 one in
    let others : many_within n sorts p d.0 ≡ took xs left = repeated-complete P p sorts more starts part shorter a n d.0 xs left (omega arith) h stop d.2 in
    rw (b, one, others) refl

stops-second : (a b : List TokenSort) (e : Bool) (left : List Lexeme) → begins_among (cond e (a ++ b) b) left ≡ false → begins_among b left ≡ false
stops-second a b true left h = (stops-both a b left h).1
stops-second a b false left h = h

stops-first : (a b : List TokenSort) (e : Bool) (left : List Lexeme) → e ≡ true → begins_among (cond e (a ++ b) b) left ≡ false → begins_among a left ≡ false
stops-first a b true left f h = (stops-both a b left h).0
stops-first a b false left f h = absurd cc

-- a test as it is chosen
stops-if : (a : List TokenSort) (e : Bool) (left : List Lexeme) → e ≡ true → begins_among (cond e a []) left ≡ false → begins_among a left ≡ false
stops-if a true left f h = h
stops-if a false left f h = absurd cc

pub reads-complete : {R V A : Type 0} (t : Lookahead R) (env : R → Grammar V) (reader : R → Parser V) → ((r : R) → Begins (env r) (t.first_of r) false) → ((r : R) → Shorter (reader r) false) → ((r : R) → Complete (env r) (reader r) (t.stops_of r))
    → (f : Format R V A) → fine t f ≡ true → Complete (derives env f) (reads t reader f) (stop_sorts t f)
unfolding many_at
reads-complete t env reader starts shorter rules (Yields x) ok tokens y left h d = reading_of x y tokens left d.0 d.1
reads-complete t env reader starts shorter rules (Single s f) ok tokens y left h d = token-complete s f tokens y left d
reads-complete t env reader starts shorter rules (Apply p q) ok tokens y left h d =
    let c = and_parts (fine t p && fine t q) (apart (stop_sorts t p) (first_sorts t q)) ok in
    let b = and_parts (fine t p) (fine t q) c.0 in
    let last : begins_among (stop_sorts t q) left ≡ false = stops-second (stop_sorts t p) (stop_sorts t q) (nullable q) left h in
    let later : reads t reader q d.1 ≡ took d.3.0 d.3.1 = reads-complete t env reader starts shorter rules q b.1 d.1 d.3.0 d.3.1 (subst (λ (l : List Lexeme). begins_among (stop_sorts t q) l ≡ false) (sym d.3.3.1) last) d.3.2 in
    let follow : begins_among (stop_sorts t p) d.1 ≡ false = elim (derives-begins t env starts q d.1 d.3.0 d.3.1 d.3.2) [
      | inl w ↦ begins-apart (stop_sorts t p) (first_sorts t q) d.1 c.1 w
      | inr w ↦ subst (λ (l : List Lexeme). begins_among (stop_sorts t p) l ≡ false) (sym (w.1 ∙ d.3.3.1)) (stops-first (stop_sorts t p) (stop_sorts t q) (nullable q) left w.0 h)
    ] in
    let sooner : reads t reader p tokens ≡ took d.0 d.1 = reads-complete t env reader starts shorter rules p b.0 tokens d.0 d.1 follow d.2 in
    rw (sooner, later) (reading_of (d.0 d.3.0) y d.3.1 left d.3.3.0 d.3.3.1)
reads-complete t env reader starts shorter rules (Either p q) ok tokens y left h d =
    let c = and_parts (fine t p && fine t q) (not (nullable p) && apart (first_sorts t p) (first_sorts t q)) ok in
    let b = and_parts (fine t p) (fine t q) c.0 in
    let e = and_parts (not (nullable p)) (apart (first_sorts t p) (first_sorts t q)) c.1 in
    let solid : nullable p ≡ false = not-true (nullable p) e.0 in
    let h1 = stops-both (stop_sorts t p ++ stop_sorts t q) (cond (nullable q) (first_sorts t p) []) left h in
    let h2 = stops-both (stop_sorts t p) (stop_sorts t q) left h1.0 in
    elim d [
      | inl u ↦
          let begun : begins_among (first_sorts t p) tokens ≡ true = elim (derives-begins t env starts p tokens y left u) [ inl w ↦ w | inr w ↦ absurd (let g = w.0 in cc) ] in
          rw begun (reads-complete t env reader starts shorter rules p b.0 tokens y left h2.0 u)
      | inr u ↦
          let other : begins_among (first_sorts t p) tokens ≡ false = elim (derives-begins t env starts q tokens y left u) [
            | inl w ↦ begins-apart (first_sorts t p) (first_sorts t q) tokens e.1 w
            | inr w ↦ subst (λ (l : List Lexeme). begins_among (first_sorts t p) l ≡ false) (sym w.1) (stops-if (first_sorts t p) (nullable q) left w.0 h1.1)
          ] in
          rw other (reads-complete t env reader starts shorter rules q b.1 tokens y left h2.1 u)
    ]
reads-complete t env reader starts shorter rules (Many p) ok tokens xs left h d =
    let b = and_parts (fine t p) (not (nullable p) && apart (stop_sorts t p) (first_sorts t p)) ok in
    let e = and_parts (not (nullable p)) (apart (stop_sorts t p) (first_sorts t p)) b.1 in
    let solid : nullable p ≡ false = not-true (nullable p) e.0 in
    let h2 = stops-both (stop_sorts t p) (first_sorts t p) left h in
    repeated-complete (derives env p) (reads t reader p) (first_sorts t p) (stop_sorts t p)
    (subst (λ (n : Bool). Begins (derives env p) (first_sorts t p) n) solid (derives-begins t env starts p))
    (reads-complete t env reader starts shorter rules p b.0)
    (subst (λ (n : Bool). Shorter (reads t reader p) n) solid (reads-shorter t reader shorter p))
    e.1 (length tokens) tokens xs left (omega arith) h2.0 h2.1 d
reads-complete t env reader starts shorter rules (ByRule r) ok tokens y left h d = rules r tokens y left h d
