-- Facts of all values that a format spells from the tokens of a text, and of the openings that they take.
use Rattle.std.proofs.Common.{◌≡◌, ℕ, zero, suc, ◌+◌, ◌≤◌, Bool, true, false, List, [], ◌∷◌, refl, sym, ap, subst, inl, inr, arith}
use Rattle.std.specs.Prelude.{Option, Some, None}
use Rattle.std.specs.List.{AllByRecursion}
use Rattle.std.specs.Option.{option_and_then}
use Rattle.std.proofs.lemmas.Option.{option_and_then_some, same_Some}
use Rattle.sig_base.specs.declared.limits.TheConstants.{OPENINGS_MAX}
use Rattle.model_core.specs.declared.token.Word.{Word}
use Rattle.model_core.specs.declared.token.Symbol.{Symbol}
use Rattle.model_core.specs.declared.token.Symbol.TheVariants as symbols
use Rattle.model_core.specs.Text.Lexing.{Lexeme, LexemeKind, NameOf, Reserved, NumberOf, Mark}
use Rattle.model_core.specs.Text.Openings.{ends_part, is_opening}
use Rattle.model_core.specs.Text.Grammar.{Grammar, many}
use Rattle.model_core.specs.Text.Written.{WrittenExpression, WrittenName, WrittenNumber}
use Rattle.model_core.specs.Text.Numbering.{each_numbered}
use Rattle.model_core.specs.Text.Spellable.{IsName, IsNonEmpty, openings_together}
use Rattle.model_core.specs.Text.Format.{TokenSort, AName, ANumber, AWord, ASymbol, sort_of, sort_as, Yields, Single, Apply, Either, Many, derives, name_bytes, number_value, any_name, any_number, mark, reserved, ◌<*◌, ◌*>◌, maybe, at_least_one, separated}
use Rattle.model_core.specs.Text.Expressions.{Level, LanguageFormat}
use Rattle.text_laws.specs.OpeningCount.{deep_from}
use Rattle.round_trip.proofs.TokensOfTexts.{GoodKind, GoodTokens, IsSmallNumber}

-- tokens of a text, where its part may have so many more openings
pub record Sound (k : ℕ) (tokens : List Lexeme) : Type 0 where
  pub good : GoodTokens tokens
  pub few : deep_from OPENINGS_MAX k tokens ≡ None

-- what holds of a value, of the openings that were left before it and of those that are left after it
abbrev pub ValueFact : Type 0 → Type 1
ValueFact A = ℕ → A → ℕ → Type 0

-- where each level derives this, R holds of what the format derives
pub record Implies {A : Type 0} (levels : Level → Grammar WrittenExpression) (f : LanguageFormat A) (R : ValueFact A) : Type 0 where
  pub run : (k : ℕ) (tokens : List Lexeme) (v : A) (left : List Lexeme) → Sound k tokens → derives levels f tokens v left → (j : ℕ) × R k v j × Sound j left

-- a function that maps each value with Q to one with R
pub record Then {A B : Type 0} (Q : ValueFact A) (R : ValueFact B) (k : ℕ) (f : A → B) (i : ℕ) : Type 0 where
  pub made : (x : A) (j : ℕ) → Q i x j → R k (f x) j

-- a value that stays past what Q holds of
pub record Past {A B : Type 0} (Q : ValueFact A) (R : ValueFact B) (k : ℕ) (y : B) (i : ℕ) : Type 0 where
  pub kept : (x : A) (j : ℕ) → Q i x j → R k y j

pub made : {A B : Type 0} {Q : ValueFact A} {R : ValueFact B} {k : ℕ} {f : A → B} {i : ℕ} → ((x : A) (j : ℕ) → Q i x j → R k (f x) j) → Then Q R k f i
made h = record { made = h }

pub kept : {A B : Type 0} {Q : ValueFact A} {R : ValueFact B} {k : ℕ} {y : B} {i : ℕ} → ((x : A) (j : ℕ) → Q i x j → R k y j) → Past Q R k y i
kept h = record { kept = h }

-- ---- one token

-- how a token that ends a part, or opens, or neither, takes the openings from k to j
abbrev pub Steps : Bool → Bool → ℕ → ℕ → Type 0
Steps true opening k j = j ≡ OPENINGS_MAX
Steps false true k j = k ≡ suc j
Steps false false k j = k ≡ j

steps : (t : Lexeme) (left : List Lexeme) (e o : Bool) → ends_part t.kind ≡ e → is_opening t.kind ≡ o → (k : ℕ) → deep_from OPENINGS_MAX k (t ∷ left) ≡ None → (j : ℕ) × Steps e o k j × (deep_from OPENINGS_MAX j left ≡ None)
steps t left true o is opens zero d = (OPENINGS_MAX, refl, rw is at d)
steps t left true o is opens (suc k) d = (OPENINGS_MAX, refl, rw is at d)
steps t left false true is opens zero d = absurd (some_none (rw (is, opens) at d))
  where
    some_none : Some t.from ≡ None → ⊥
    some_none e = cc
steps t left false true is opens (suc k) d = (k, refl, rw (is, opens) at d)
steps t left false false is opens zero d = (zero, refl, rw (is, opens) at d)
steps t left false false is opens (suc k) d = (suc k, refl, rw (is, opens) at d)

abbrev pub Taken : LexemeKind → ℕ → ℕ → Type 0
Taken kind k j = Steps (ends_part kind) (is_opening kind) k j

implies-token : {A : Type 0} {levels : Level → Grammar WrittenExpression} (s : TokenSort) (f : Lexeme → A) (R : ValueFact A) → ((t : Lexeme) → GoodKind t.kind → sort_as s t.kind ≡ s → (k j : ℕ) → Taken t.kind k j → R k (f t) j) → Implies levels (Single s f) R
implies-token {A} {levels} s f R makes = record { run = go }
  where
    go : (k : ℕ) (tokens : List Lexeme) (v : A) (left : List Lexeme) → Sound k tokens → derives levels (Single s f) tokens v left → (j : ℕ) × R k v j × Sound j left
    go k [] v left sound d = absurd d
    go k (t ∷ tokens) v left sound d =
        let next = steps t tokens (ends_part t.kind) (is_opening t.kind) refl refl k sound.few in (
          next.0,
          subst (λ (x : A). R k x next.0) d.1 (makes t sound.good.0 d.0 k next.0 next.1),
          subst (Sound next.0) d.2 (record { good = sound.good.1; few = next.2 }),
        )

pub reserved_kind : (k : LexemeKind) (w : Word) → sort_of k ≡ AWord w → k ≡ Reserved w
reserved_kind (NameOf b) w e = cc
reserved_kind (Reserved v) w e = let h : v ≡ w = cc in ap Reserved h
reserved_kind (NumberOf n m) w e = cc
reserved_kind (Mark s) w e = cc

pub mark_kind : (k : LexemeKind) (s : Symbol) → sort_of k ≡ ASymbol s → k ≡ Mark s
mark_kind (NameOf b) s e = cc
mark_kind (Reserved v) s e = cc
mark_kind (NumberOf n m) s e = cc
mark_kind (Mark v) s e = let h : v ≡ s = cc in ap Mark h

-- a reserved word and a symbol
pub implies-word : {A : Type 0} {levels : Level → Grammar WrittenExpression} (w : Word) (f : Lexeme → A) → Implies levels (Single (AWord w) f) (λ k v j. ((t : Lexeme) × (f t ≡ v)) × Taken (Reserved w) k j)
implies-word w f = implies-token (AWord w) f _ (λ t good same k j s. ((t, refl), subst (λ (x : LexemeKind). Taken x k j) (reserved_kind t.kind w same) s))

pub implies-symbol : {A : Type 0} {levels : Level → Grammar WrittenExpression} (m : Symbol) (f : Lexeme → A) → Implies levels (Single (ASymbol m) f) (λ k v j. ((t : Lexeme) × (f t ≡ v)) × Taken (Mark m) k j)
implies-symbol m f = implies-token (ASymbol m) f _ (λ t good same k j s. ((t, refl), subst (λ (x : LexemeKind). Taken x k j) (mark_kind t.kind m same) s))

-- the word and the symbol alone
abbrev pub AWordAt : Word → ℕ → ℕ → ℕ → Type 0
AWordAt w k at j = Taken (Reserved w) k j

abbrev pub AMarkAt : Symbol → ℕ → ℕ → ℕ → Type 0
AMarkAt m k at j = Taken (Mark m) k j

pub implies-reserved : {levels : Level → Grammar WrittenExpression} (w : Word) → Implies levels (reserved w) (AWordAt w)
implies-reserved w = implies-token (AWord w) _ (AWordAt w) (λ t good same k j s. subst (λ (x : LexemeKind). Taken x k j) (reserved_kind t.kind w same) s)

pub implies-mark : {levels : Level → Grammar WrittenExpression} (m : Symbol) → Implies levels (mark m) (AMarkAt m)
implies-mark m = implies-token (ASymbol m) _ (AMarkAt m) (λ t good same k j s. subst (λ (x : LexemeKind). Taken x k j) (mark_kind t.kind m same) s)

abbrev pub AWrittenName : ℕ → WrittenName → ℕ → Type 0
AWrittenName k n j = IsName n.name × (k ≡ j)

abbrev pub AWrittenNumber : ℕ → WrittenNumber → ℕ → Type 0
AWrittenNumber k n j = IsSmallNumber n.value × (k ≡ j)

pub implies-name : {levels : Level → Grammar WrittenExpression} → Implies levels any_name AWrittenName
implies-name = implies-token AName _ AWrittenName (λ t good same k j s. by-kind t.kind t.from good same k j s)
  where
    by-kind : (kind : LexemeKind) (from : ℕ) → GoodKind kind → sort_of kind ≡ AName → (k j : ℕ) → Taken kind k j → IsName (name_bytes kind) × (k ≡ j)
    by-kind (NameOf b) from good same k j s = (good, s)
    by-kind (Reserved v) from good same k j s = cc
    by-kind (NumberOf n m) from good same k j s = cc
    by-kind (Mark v) from good same k j s = cc

pub implies-number : {levels : Level → Grammar WrittenExpression} → Implies levels any_number AWrittenNumber
implies-number = implies-token ANumber _ AWrittenNumber (λ t good same k j s. by-kind t.kind t.from good same k j s)
  where
    by-kind : (kind : LexemeKind) (from : ℕ) → GoodKind kind → sort_of kind ≡ ANumber → (k j : ℕ) → Taken kind k j → IsSmallNumber (number_value kind) × (k ≡ j)
    by-kind (NameOf b) from good same k j s = cc
    by-kind (Reserved v) from good same k j s = cc
    by-kind (NumberOf n m) from good same k j s = (good, s)
    by-kind (Mark v) from good same k j s = cc

-- ---- parts in a row

-- a part after another one
pub record AfterPart {A B : Type 0} (Q : ValueFact A) (R : ValueFact B) (k : ℕ) (y : B) (j : ℕ) : Type 0 where
  pub value : A
  pub between : ℕ
  pub first : Q k value between
  pub second : R between y j

-- a part that may be left out
abbrev pub MaybeSo : {A : Type 0} → (ℕ → A → ℕ → Type 0) → ℕ → Option A → ℕ → Type 0
MaybeSo R k None j = k ≡ j
MaybeSo R k (Some x) j = R k x j

-- each of several, one after the other
abbrev pub EachSo : {A : Type 0} → (ℕ → A → ℕ → Type 0) → ℕ → List A → ℕ → Type 0
EachSo R k [] j = k ≡ j
EachSo R k (x ∷ xs) j = (i : ℕ) × R k x i × EachSo R i xs j

-- one at least
abbrev pub SomeSo : {A : Type 0} → (ℕ → A → ℕ → Type 0) → ℕ → List A → ℕ → Type 0
SomeSo R k xs j = IsNonEmpty xs × EachSo R k xs j

module _ {levels : Level → Grammar WrittenExpression} where
  pub implies-yields : {A : Type 0} (x : A) (R : ValueFact A) → ((k : ℕ) → R k x k) → Implies levels (Yields x) R
  implies-yields x R holds = record { run = λ k tokens v left sound d. (k, subst (λ y. R k y k) d.0 (holds k), subst (Sound k) d.1 sound) }

  pub implies-then : {A B : Type 0} {p : LanguageFormat (A → B)} {q : LanguageFormat A} {Q : ValueFact A} {R : ValueFact B} → Implies levels p (Then Q R) → Implies levels q Q → Implies levels (Apply p q) R
  implies-then {B = B} {R = R} first second = record {
    run = λ k tokens v left sound d.
        let f = first.run k tokens d.0 d.1 sound d.2 in
        let x = second.run f.0 d.1 d.3.0 d.3.1 f.2 d.3.2 in
        (x.0, subst (λ (y : B). R k y x.0) d.3.3.0 (f.1.made d.3.0 x.0 x.1), subst (Sound x.0) d.3.3.1 x.2);
  }

  pub implies-made : {A B : Type 0} (g : A → B) {p : LanguageFormat A} {Q : ValueFact A} (R : ValueFact B) → Implies levels p Q → ((k : ℕ) (x : A) (j : ℕ) → Q k x j → R k (g x) j) → Implies levels (Apply (Yields g) p) R
  implies-made g {Q = Q} R part makes = implies-then (implies-yields g (Then Q R) (λ k. made (λ x j q. makes k x j q))) part

  pub implies-past : {A B : Type 0} {p : LanguageFormat A} {q : LanguageFormat B} {Q : ValueFact B} {R : ValueFact A} → Implies levels p (Past Q R) → Implies levels q Q → Implies levels (p <* q) R
  implies-past {Q = Q} {R = R} first second = implies-then (implies-made (λ x y. x) (Then Q R) first (λ k x i h. made (λ y j q. h.kept y j q))) second

  pub implies-after : {A B : Type 0} {p : LanguageFormat A} {q : LanguageFormat B} {Q : ValueFact A} {R : ValueFact B} → Implies levels p Q → Implies levels q R → Implies levels (p *> q) (AfterPart Q R)
  implies-after {Q = Q} {R = R} first second = implies-then (implies-made (λ x y. y) (Then R (AfterPart Q R)) first (λ k x i h. made (λ y j q. record { value = x; between = i; first = h; second = q }))) second

  pub implies-as : {A : Type 0} {p : LanguageFormat A} {Q : ValueFact A} (R : ValueFact A) → ((k : ℕ) (x : A) (j : ℕ) → Q k x j → R k x j) → Implies levels p Q → Implies levels p R
  implies-as R into part = record { run = λ k tokens v left sound d. let x = part.run k tokens v left sound d in (x.0, into k v x.0 x.1, x.2) }

  pub implies-either : {A : Type 0} {p q : LanguageFormat A} {R : ValueFact A} → Implies levels p R → Implies levels q R → Implies levels (Either p q) R
  implies-either one other = record { run = λ k tokens v left sound d. elim d [ inl h ↦ one.run k tokens v left sound h | inr h ↦ other.run k tokens v left sound h ] }

  pub implies-maybe : {A : Type 0} {p : LanguageFormat A} (R : ValueFact A) → Implies levels p R → Implies levels (maybe p) (MaybeSo R)
  implies-maybe R part = implies-either (implies-made (λ x. Some x) (MaybeSo R) part (λ k x j h. h)) (implies-yields None (MaybeSo R) (λ k. refl))

  pub implies-many : {A : Type 0} {p : LanguageFormat A} (R : ValueFact A) → Implies levels p R → Implies levels (Many p) (EachSo R)
  implies-many {A} {p} R part = record { run = go }
    where
      go : (k : ℕ) (tokens : List Lexeme) (xs : List A) (left : List Lexeme) → Sound k tokens → many (derives levels p) tokens xs left → (j : ℕ) × EachSo R k xs j × Sound j left
      go k tokens [] left sound d = (k, refl, subst (Sound k) d sound)
      go k tokens (x ∷ xs) left sound d =
          let f = part.run k tokens x d.0 sound d.1 in
          let s = go f.0 d.0 xs left f.2 d.2 in
          (s.0, (f.0, f.1, s.1), s.2)

  pub implies-some : {A : Type 0} {p : LanguageFormat A} (R : ValueFact A) → Implies levels p R → Implies levels (at_least_one p) (SomeSo R)
  implies-some R part = implies-then (implies-made (λ x xs. x ∷ xs) (Then (EachSo R) (SomeSo R)) part (λ k x i h. made (λ xs j q. (tt, (i, h, q))))) (implies-many R part)

  pub implies-separated : {A : Type 0} {p : LanguageFormat A} (R : ValueFact A) → Implies levels p R → Implies levels (separated p) (SomeSo R)
  implies-separated R part =
      implies-then (implies-made (λ x xs. x ∷ xs) (Then (EachSo R) (SomeSo R)) part (λ k x i h. made (λ xs j q. (tt, (i, h, q)))))
      (implies-many R (implies-as R (λ k x j h. subst (λ (i : ℕ). R i x j) (sym h.first) h.second) (implies-after (implies-mark symbols.Comma) part)))

-- ---- values with numbers for names

pub bound : {A B : Type 0} (f : A → Option B) (o : Option A) (y : B) → option_and_then f o ≡ Some y → (x : A) × (o ≡ Some x) × (f x ≡ Some y)
bound f o y e = option_and_then_some f o y e (λ x is makes. (x, is, makes))

pub none_some : {A : Type 0} {P : Type 0} (y : A) → None ≡ Some y → P
none_some y e = absurd cc

-- what is good, and has openings enough from k to j
abbrev pub Fits : {B : Type 0} → (B → Type 0) → (B → ℕ) → ℕ → ℕ → B → Type 0
Fits Good cost k j e = Good e × (cost e + j ≤ k)

-- a part that fits as it is numbered
abbrev pub Costs : {A B : Type 0} → (A → Option B) → (B → Type 0) → (B → ℕ) → ℕ → A → ℕ → Type 0
Costs {A} {B} f Good cost k w j = (e : B) → f w ≡ Some e → Fits Good cost k j e

pub together : {A B : Type 0} (f : A → Option B) (Good : B → Type 0) (cost : B → ℕ) (k : ℕ) (ws : List A) (j : ℕ) → EachSo (Costs f Good cost) k ws j → (es : List B) → each_numbered f ws ≡ Some es → AllByRecursion Good es × (openings_together cost es + j ≤ k)
together f Good cost k [] j h es e = subst (Fits (AllByRecursion Good) (openings_together cost) k j) (same_Some [] es e) (tt, omega (arith, h))
together f Good cost k (w ∷ ws) j h es e =
    let first = bound (λ y. option_and_then (λ ys. Some (y ∷ ys)) (each_numbered f ws)) (f w) es e in
    let later = bound (λ ys. Some (first.0 ∷ ys)) (each_numbered f ws) es first.2 in
    let a = h.1 first.0 first.1 in
    let b = together f Good cost h.0 ws j h.2 later.0 later.1 in
    subst (Fits (AllByRecursion Good) (openings_together cost) k j) (same_Some (first.0 ∷ later.0) es later.2) ((a.0, b.0), omega (arith, a.1, b.1))
