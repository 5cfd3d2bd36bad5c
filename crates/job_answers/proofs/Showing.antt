-- What a format shows of the tokens of a text that it takes: what they are, but for the sign of a zero.
use Rattle.std.proofs.Common.{◌≡◌, ℕ, zero, suc, ◌+◌, ◌-◌, ◌^◌, Bool, true, false, List, [], ◌∷◌, ◌++◌, refl, sym, ap, ◌∙◌, subst, inl, inr}
use Rattle.std.specs.Prelude.{ℤ, pos, Option, Some, None, Result, Ok, Err, nat_lt, nat_eq, ◌==◌, if◌then◌else◌, length}
use Rattle.std.specs.List.{AllByRecursion, take_while, starts_with}
use Rattle.std.specs.Char.{is_ascii_digit, is_ascii_alphabetic}
use Rattle.model_core.specs.declared.token.Word.{Word}
use Rattle.model_core.specs.declared.token.Symbol.{Symbol}
use Rattle.model_core.specs.Text.Grammar.{many}
use Rattle.model_core.specs.Text.Format.{TokenSort, AName, ASpelled, ANumber, AWord, ASymbol, sort_of, sort_as, Yields, Single, Apply, Either, Many, Spells, name_bytes, number_value, any_name, any_number, this_name, mark, reserved, number_exact, ◌<*◌, ◌*>◌, maybe}
use Rattle.model_core.specs.Text.Expressions.{LanguageFormat, level_format}
use Rattle.round_trip.proofs.SpelledFacts.{reserved_kind, mark_kind}
use Rattle.job_answers.specs.PlainKinds.{before_kinds, plain_kinds}
use Rattle.job_answers.proofs.ModelTerms.{Lexeme, LexemeKind, NameOf, Reserved, NumberOf, Mark, Front, Between, Longest, Neither, front, front_length, after_front, tokens_from, is_blank, is_word_byte, word_among, reserved_words, symbol_among, all_symbols, same_bytes, WrittenName, WrittenNumber}

-- ---- numbers as they are written in a text

-- the value of a number token, by what its digits write
abbrev pub literal : ℕ → Option ℤ
literal n = if nat_lt n (2 ^ 63) then Some (pos n) else None

abbrev pub number : ℕ → LexemeKind
number n = NumberOf (literal n) n

-- a number has the value that its digits write
abbrev pub IsExact : LexemeKind → Type 0
IsExact (NumberOf value exact) = value ≡ literal exact
IsExact other = Unit {0}

abbrev pub AreExact : List Lexeme → Type 0
AreExact tokens = AllByRecursion (λ (t : Lexeme). IsExact t.kind) tokens

abbrev ExactFront : Front → Type 0
ExactFront (Between n) = Unit {0}
ExactFront (Longest n k) = IsExact k
ExactFront Neither = Unit {0}

abbrev ExactResult : Result (List Lexeme) ℕ → Type 0
ExactResult (Ok tokens) = AreExact tokens
ExactResult (Err place) = Unit {0}

either : {A : Type 0} (P : A → Type 0) (b : Bool) (x y : A) → P x → P y → P (if b then x else y)
either P true x y h k = h
either P false x y h k = k

word-exact : (ws : List (List ℕ × Word)) (bytes : List ℕ) → IsExact (word_among ws bytes)
word-exact [] bytes = tt
word-exact (w ∷ ws) bytes = either IsExact (same_bytes bytes w.0) (Reserved w.1) (word_among ws bytes) tt (word-exact ws bytes)

symbol-exact : (ss : List (List ℕ × Symbol)) (text : List ℕ) → ExactFront (symbol_among ss text)
symbol-exact [] text = tt
symbol-exact (s ∷ ss) text = either ExactFront (starts_with nat_eq text s.0) (Longest (length s.0) (Mark s.1)) (symbol_among ss text) tt (symbol-exact ss text)

front-exact : (c : ℕ) (s : List ℕ) → ExactFront (front c s)
front-exact c s =
    either ExactFront (is_blank c) _ _ tt
    (either ExactFront (c == 35) _ _ tt
    (either ExactFront (is_ascii_alphabetic c) _ _ (word-exact reserved_words (take_while is_word_byte (c ∷ s)))
    (either ExactFront (is_ascii_digit c) _ _ refl (symbol-exact all_symbols (c ∷ s)))))

after-exact : (at : ℕ) (f : Front) (r : Result (List Lexeme) ℕ) → ExactFront f → ExactResult r → ExactResult (after_front at f r)
after-exact at (Between n) r h g = g
after-exact at (Longest n k) (Ok ts) h g = (h, g)
after-exact at (Longest n k) (Err place) h g = tt
after-exact at Neither r h g = tt

from-exact : (at inside : ℕ) (text : List ℕ) → ExactResult (tokens_from at inside text)
from-exact at inside [] = tt
from-exact at (suc inside) (c ∷ s) = from-exact (at + 1) inside s
from-exact at zero (c ∷ s) = after-exact at (front c s) (tokens_from (at + 1) (front_length (front c s) - 1) s) (front-exact c s) (from-exact (at + 1) (front_length (front c s) - 1) s)

-- the tokens of any text are so
pub tokens-exact : (at : ℕ) (text : List ℕ) (tokens : List Lexeme) → tokens_from at 0 text ≡ Ok tokens → AreExact tokens
tokens-exact at text tokens e = subst ExactResult e (from-exact at 0 text)

pub exact-behind : (front behind : List Lexeme) → AreExact (front ++ behind) → AreExact behind
exact-behind [] behind h = h
exact-behind (t ∷ front) behind (here, h) = exact-behind front behind h

-- ---- formats

-- what holds of the kinds before a value is taken, of the value, and of the kinds that are left
abbrev pub Showing : Type 0 → Type 1
Showing A = List LexemeKind → A → List LexemeKind → Type 0

pub record Shows {A : Type 0} (f : LanguageFormat A) (R : Showing A) : Type 0 where
  pub run : (tokens : List Lexeme) (v : A) (left : List Lexeme) → AreExact tokens → Spells level_format f tokens v left → R (plain_kinds tokens) v (plain_kinds left) × AreExact left

-- a function from values of which Q holds to values of which R holds
pub record Makes {A B : Type 0} (Q : Showing A) (R : Showing B) (k : List LexemeKind) (f : A → B) (i : List LexemeKind) : Type 0 where
  pub made : (x : A) (j : List LexemeKind) → Q i x j → R k (f x) j

pub makes : {A B : Type 0} {Q : Showing A} {R : Showing B} {k : List LexemeKind} {f : A → B} {i : List LexemeKind} → ((x : A) (j : List LexemeKind) → Q i x j → R k (f x) j) → Makes Q R k f i
makes h = record { made = h }

-- a value that stays past what Q holds of
pub record KeepsValue {A B : Type 0} (Q : Showing A) (R : Showing B) (k : List LexemeKind) (y : B) (i : List LexemeKind) : Type 0 where
  pub kept : (x : A) (j : List LexemeKind) → Q i x j → R k y j

pub keeps_value : {A B : Type 0} {Q : Showing A} {R : Showing B} {k : List LexemeKind} {y : B} {i : List LexemeKind} → ((x : A) (j : List LexemeKind) → Q i x j → R k y j) → KeepsValue Q R k y i
keeps_value h = record { kept = h }

pub shows-token : {A : Type 0} (s : TokenSort) (f : Lexeme → A) (R : Showing A) → ((t : Lexeme) → IsExact t.kind → sort_as s t.kind ≡ s → (j : List LexemeKind) → R (before_kinds t.kind j) (f t) j) → Shows (Single s f) R
shows-token {A} s f R holds = record { run = go }
  where
    go : (tokens : List Lexeme) (v : A) (left : List Lexeme) → AreExact tokens → Spells level_format (Single s f) tokens v left → R (plain_kinds tokens) v (plain_kinds left) × AreExact left
    go [] v left exact d = absurd d
    go (t ∷ tokens) v left exact d = (
      subst (λ (l : List Lexeme). R (plain_kinds (t ∷ tokens)) v (plain_kinds l)) d.2 (subst (λ (x : A). R (plain_kinds (t ∷ tokens)) x (plain_kinds tokens)) d.1 (holds t exact.0 d.0 (plain_kinds tokens))),
      subst AreExact d.2 exact.1,
    )

pub shows-yields : {A : Type 0} (x : A) (R : Showing A) → ((k : List LexemeKind) → R k x k) → Shows (Yields x) R
shows-yields x R holds = record {
  run = λ tokens v left exact d.
      (subst (λ y. R (plain_kinds tokens) y (plain_kinds left)) d.0 (subst (λ (l : List Lexeme). R (plain_kinds tokens) x (plain_kinds l)) d.1 (holds (plain_kinds tokens))), subst AreExact d.1 exact);
}

pub shows-then : {A B : Type 0} {p : LanguageFormat (A → B)} {q : LanguageFormat A} {Q : Showing A} {R : Showing B} → Shows p (Makes Q R) → Shows q Q → Shows (Apply p q) R
shows-then {B = B} {R = R} first second = record {
  run = λ tokens v left exact d.
      let f = first.run tokens d.0 d.1 exact d.2 in
      let x = second.run d.1 d.3.0 d.3.1 f.1 d.3.2 in
      let made : R (plain_kinds tokens) (d.0 d.3.0) (plain_kinds d.3.1) = f.0.made d.3.0 (plain_kinds d.3.1) x.0 in (
        subst (λ (y : B). R (plain_kinds tokens) y (plain_kinds left)) d.3.3.0 (subst (λ (l : List Lexeme). R (plain_kinds tokens) (d.0 d.3.0) (plain_kinds l)) d.3.3.1 made),
        subst AreExact d.3.3.1 x.1,
      );
}

pub shows-made : {A B : Type 0} (g : A → B) {p : LanguageFormat A} {Q : Showing A} (R : Showing B) → Shows p Q → ((k : List LexemeKind) (x : A) (j : List LexemeKind) → Q k x j → R k (g x) j) → Shows (Apply (Yields g) p) R
shows-made g {Q = Q} R part holds = shows-then (shows-yields g (Makes Q R) (λ k. makes (λ x j q. holds k x j q))) part

pub shows-past : {A B : Type 0} {p : LanguageFormat A} {q : LanguageFormat B} {Q : Showing B} {R : Showing A} → Shows p (KeepsValue Q R) → Shows q Q → Shows (p <* q) R
shows-past {Q = Q} {R = R} first second = shows-then (shows-made (λ x y. x) (Makes Q R) first (λ k x i h. makes (λ y j q. h.kept y j q))) second

-- a part after another one
pub record Behind {A B : Type 0} (Q : Showing A) (R : Showing B) (k : List LexemeKind) (y : B) (j : List LexemeKind) : Type 0 where
  pub value : A
  pub between : List LexemeKind
  pub first : Q k value between
  pub second : R between y j

pub shows-behind : {A B : Type 0} {p : LanguageFormat A} {q : LanguageFormat B} {Q : Showing A} {R : Showing B} → Shows p Q → Shows q R → Shows (p *> q) (Behind Q R)
shows-behind {Q = Q} {R = R} first second = shows-then (shows-made (λ x y. y) (Makes R (Behind Q R)) first (λ k x i h. makes (λ y j q. record { value = x; between = i; first = h; second = q }))) second

pub shows-as : {A : Type 0} {p : LanguageFormat A} {Q : Showing A} (R : Showing A) → ((k : List LexemeKind) (x : A) (j : List LexemeKind) → Q k x j → R k x j) → Shows p Q → Shows p R
shows-as R into part = record { run = λ tokens v left exact d. let x = part.run tokens v left exact d in (into (plain_kinds tokens) v (plain_kinds left) x.0, x.1) }

pub shows-either : {A : Type 0} {p q : LanguageFormat A} {R : Showing A} → Shows p R → Shows q R → Shows (Either p q) R
shows-either one other = record { run = λ tokens v left exact d. elim d [ inl h ↦ one.run tokens v left exact h | inr h ↦ other.run tokens v left exact h ] }

-- a part that may be left out
abbrev pub Maybe : {A : Type 0} → Showing A → Showing (Option A)
Maybe R k None j = k ≡ j
Maybe R k (Some x) j = R k x j

-- each of several, one after the other
abbrev pub Each : {A : Type 0} → Showing A → Showing (List A)
Each R k [] j = k ≡ j
Each R k (x ∷ xs) j = (i : List LexemeKind) × R k x i × Each R i xs j

pub shows-maybe : {A : Type 0} {p : LanguageFormat A} (R : Showing A) → Shows p R → Shows (maybe p) (Maybe R)
shows-maybe R part = shows-either (shows-made (λ x. Some x) (Maybe R) part (λ k x j h. h)) (shows-yields None (Maybe R) (λ k. refl))

pub shows-many : {A : Type 0} {p : LanguageFormat A} (R : Showing A) → Shows p R → Shows (Many p) (Each R)
shows-many {A} {p} R part = record { run = go }
  where
    go : (tokens : List Lexeme) (xs : List A) (left : List Lexeme) → AreExact tokens → many (Spells level_format p) tokens xs left → Each R (plain_kinds tokens) xs (plain_kinds left) × AreExact left
    go tokens [] left exact d = (ap plain_kinds d, subst AreExact d exact)
    go tokens (x ∷ xs) left exact d =
        let f = part.run tokens x d.0 exact d.1 in
        let s = go d.0 xs left f.1 d.2 in
        ((plain_kinds d.0, f.0, s.0), s.1)

-- ---- tokens

-- the name with this spelling, a reserved word, a symbol but the sign
abbrev pub AWordSo : LexemeKind → Showing ℕ
AWordSo kind k at j = k ≡ kind ∷ j

spelled_kind : (k : LexemeKind) (bytes : List ℕ) → sort_as (ASpelled bytes) k ≡ ASpelled bytes → k ≡ NameOf bytes
spelled_kind (NameOf b) bytes e = let h : b ≡ bytes = cc in ap NameOf h
spelled_kind (Reserved v) bytes e = cc
spelled_kind (NumberOf n m) bytes e = cc
spelled_kind (Mark s) bytes e = cc

pub shows-this_name : (bytes : List ℕ) → Shows (this_name bytes) (AWordSo (NameOf bytes))
shows-this_name bytes = shows-token (ASpelled bytes) _ (AWordSo (NameOf bytes)) (λ t exact same j. ap (λ x. before_kinds x j) (spelled_kind t.kind bytes same))

pub shows-reserved : (w : Word) → Shows (reserved w) (AWordSo (Reserved w))
shows-reserved w = shows-token (AWord w) _ (AWordSo (Reserved w)) (λ t exact same j. ap (λ x. before_kinds x j) (reserved_kind t.kind w same))

abbrev pub AMarkSo : Symbol → Showing ℕ
AMarkSo s k at j = k ≡ before_kinds (Mark s) j

pub shows-mark : (s : Symbol) → Shows (mark s) (AMarkSo s)
shows-mark s = shows-token (ASymbol s) _ (AMarkSo s) (λ t exact same j. ap (λ x. before_kinds x j) (mark_kind t.kind s same))

abbrev pub ANameSo : Showing WrittenName
ANameSo k n j = k ≡ NameOf n.name ∷ j

pub shows-name : Shows any_name ANameSo
shows-name = shows-token AName _ ANameSo (λ t exact same j. by t.kind t.from same j)
  where
    by : (kind : LexemeKind) (from : ℕ) → sort_of kind ≡ AName → (j : List LexemeKind) → before_kinds kind j ≡ NameOf (name_bytes kind) ∷ j
    by (NameOf b) from same j = refl
    by (Reserved v) from same j = cc
    by (NumberOf n m) from same j = cc
    by (Mark v) from same j = cc

-- a number that has a value
abbrev pub ANumberSo : Showing WrittenNumber
ANumberSo k w j = (x : ℤ) → w.value ≡ Some x → (n : ℕ) × (x ≡ pos n) × (k ≡ number n ∷ j)

-- a number by what its digits write
abbrev pub AnExactSo : Showing ℕ
AnExactSo k n j = k ≡ number n ∷ j

number-value : (value : Option ℤ) (exact : ℕ) → value ≡ literal exact → (j : List LexemeKind) (x : ℤ) → value ≡ Some x → (n : ℕ) × (x ≡ pos n) × (NumberOf value exact ∷ j ≡ number n ∷ j)
number-value value exact is j x numbers = by (nat_lt exact (2 ^ 63)) (sym numbers ∙ is)
  where
    by : (b : Bool) → Some x ≡ (if b then Some (pos exact) else None) → (n : ℕ) × (x ≡ pos n) × (NumberOf value exact ∷ j ≡ number n ∷ j)
    by true e = let h : x ≡ pos exact = cc in (exact, h, ap (λ v. NumberOf v exact ∷ j) is)
    by false e = absurd cc

pub shows-number : Shows any_number ANumberSo
shows-number = shows-token ANumber _ ANumberSo (λ t exact same j. by t.kind t.from exact same j)
  where
    by : (kind : LexemeKind) (from : ℕ) → IsExact kind → sort_of kind ≡ ANumber → (j : List LexemeKind) (x : ℤ) → number_value kind ≡ Some x → (n : ℕ) × (x ≡ pos n) × (before_kinds kind j ≡ number n ∷ j)
    by (NameOf b) from exact same j = cc
    by (Reserved v) from exact same j = cc
    by (NumberOf v n) from exact same j = number-value v n exact j
    by (Mark v) from exact same j = cc

pub shows-exact : Shows (Single ANumber (λ t. number_exact t.kind)) AnExactSo
shows-exact = shows-token ANumber _ AnExactSo (λ t exact same j. by t.kind exact same j)
  where
    by : (kind : LexemeKind) → IsExact kind → sort_of kind ≡ ANumber → (j : List LexemeKind) → before_kinds kind j ≡ number (number_exact kind) ∷ j
    by (NameOf b) exact same j = cc
    by (Reserved v) exact same j = cc
    by (NumberOf v n) exact same j = ap (λ x. NumberOf x n ∷ j) exact
    by (Mark v) exact same j = cc
