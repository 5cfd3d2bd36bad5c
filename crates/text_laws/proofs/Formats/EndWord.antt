-- A model text has one word `end`, its last token. So tokens begin with a text exactly where they are one up to and with
-- their first word `end`, and the first token that can't be at its place is the same in both.
use Rattle.std.proofs.lemmas.List.{append_cancel_right}
use Rattle.std.proofs.Common.{◌≡◌, ℕ, suc, zero, Bool, true, false, List, [], ◌∷◌, ◌++◌, ◌⊎◌, inl, inr, refl, sym, ap, ◌∙◌, subst, append_assoc, append-nil}
use Rattle.std.specs.Prelude.{not, ◌&&◌}
use Rattle.std.proofs.lemmas.Bool.{not-true, and_parts}
use Rattle.model_core.specs.declared.token.Word.{Word}
use Rattle.model_core.specs.declared.token.Word.TheVariants as words
use Rattle.model_core.specs.Text.Lexing.{Lexeme, LexemeKind, NameOf, Reserved, NumberOf, Mark}
use Rattle.model_core.specs.Text.Written.{WrittenModel}
use Rattle.model_core.specs.Text.Grammar.{Grammar, many}
use Rattle.model_core.specs.Text.Format.{TokenSort, AWord, sort_of, sort_as, ASpelled, AName, ANumber, ASymbol, Format, Yields, Single, Apply, Either, Many, ByRule, single, derives, nested, by_rule, Spells}
use Rattle.model_core.specs.Text.Expressions.{LanguageFormat, Level, Whole, Disjunction, Conjunction, Negation, Comparison, Sum, Product, Unary, Primary, level_format}
use Rattle.model_core.specs.Text.Language.{signed_format, literal_format, kind_format, variable_format, row_format, table_format, watch_format, target_format, choice_format, source_format, change_format, values_format, when_format, delay_format, timing_format, schedule_format, urgent_format, cancelled_format, cancel_format, edge_format, vertex_format, version_format, text_format, BeginsWithText, IsText}
use Rattle.model_core.specs.Text.FirstWrong.{CantGoOn, FirstWrong}
use Rattle.model_core.specs.Text.Openings.{is_end_word, front_to_end}
use Rattle.text_laws.specs.FirstTokens.{same_sort}
use Rattle.text_laws.proofs.Formats.TokenSorts.{same_sort-true, same_sort-refl}
use Rattle.text_laws.proofs.Formats.Stopping.{derives-framed, rule-framed}

-- ---- formats without the word

-- the format itself has no word `end`; each rule is looked at apart
abbrev has_no_end : {R V A : Type 0} → Format R V A → Bool
has_no_end (Yields x) = true
has_no_end (Single s f) = not (same_sort s (AWord words.End))
has_no_end (Apply p q) = has_no_end p && has_no_end q
has_no_end (Either p q) = has_no_end p && has_no_end q
has_no_end (Many p) = has_no_end p
has_no_end (ByRule r) = true

-- the front goes on after these tokens
abbrev GoesOn : List Lexeme → Type 0
GoesOn u = (rest : List Lexeme) → front_to_end (u ++ rest) ≡ u ++ front_to_end rest

-- what is derived has no word `end`
abbrev Endless : {A : Type 0} → Grammar A → Type 0
Endless {A} P = (tokens : List Lexeme) (x : A) (left : List Lexeme) → P tokens x left → (u : List Lexeme) × (tokens ≡ u ++ left) × GoesOn u

goes_on-both : (u v : List Lexeme) → GoesOn u → GoesOn v → GoesOn (u ++ v)
goes_on-both u v h g rest = ap front_to_end (append_assoc u v rest) ∙ h (v ++ rest) ∙ ap (λ (l : List Lexeme). u ++ l) (g rest) ∙ sym (append_assoc u v (front_to_end rest))

is_end : (k : LexemeKind) → is_end_word k ≡ true → k ≡ Reserved words.End
is_end (Reserved words.End) e = refl
is_end _ e = absurd cc

one_token : (t : Lexeme) (b : Bool) → is_end_word t.kind ≡ b → not (same_sort (sort_of t.kind) (AWord words.End)) ≡ true → GoesOn (t ∷ [])
one_token t true e ok rest = absurd (
    let k : t.kind ≡ Reserved words.End = is_end t.kind e in
    let s : same_sort (sort_of t.kind) (AWord words.End) ≡ true = rw k (same_sort-refl (AWord words.End)) in
    let f : same_sort (sort_of t.kind) (AWord words.End) ≡ false = not-true _ ok in
    cc
    )
one_token t false e ok rest = rw e refl

-- a spelling is no reserved word
no-word : (s : TokenSort) (k : LexemeKind) (w : Word) → same_sort (sort_as s k) (AWord w) ≡ same_sort (sort_of k) (AWord w)
no-word (ASpelled bytes) (NameOf spelling) w = refl
no-word (ASpelled bytes) (Reserved v) w = refl
no-word (ASpelled bytes) (NumberOf value exact) w = refl
no-word (ASpelled bytes) (Mark m) w = refl
no-word AName k w = refl
no-word ANumber k w = refl
no-word (AWord v) k w = refl
no-word (ASymbol m) k w = refl

single-endless : {A : Type 0} (s : TokenSort) (f : Lexeme → A) → not (same_sort s (AWord words.End)) ≡ true → Endless (single s f)
single-endless s f ok [] x left d = absurd d
single-endless s f ok (t ∷ tokens) x left d = (t ∷ [], ap (λ (l : List Lexeme). t ∷ l) d.2, one_token t (is_end_word t.kind) refl (ap not (sym (no-word s t.kind words.End)) ∙ subst (λ (r : TokenSort). not (same_sort r (AWord words.End)) ≡ true) (sym d.0) ok))

many-endless : {A : Type 0} (P : Grammar A) → Endless P → Endless (many P)
many-endless P h tokens [] left d = ([], d, λ rest. refl)
many-endless P h tokens (x ∷ xs) left d =
    let a = h tokens x d.0 d.1 in
    let b = many-endless P h d.0 xs left d.2 in
    (a.0 ++ b.0, a.1 ∙ ap (λ (l : List Lexeme). a.0 ++ l) b.1 ∙ sym (append_assoc a.0 b.0 left), goes_on-both a.0 b.0 a.2 b.2)

derives-endless : {R V A : Type 0} (env : R → Grammar V) → ((r : R) → Endless (env r)) → (f : Format R V A) → has_no_end f ≡ true → Endless (derives env f)
derives-endless env h (Yields x) ok tokens y left d = ([], d.1, λ rest. refl)
derives-endless env h (Single s f) ok tokens y left d = single-endless s f ok tokens y left d
derives-endless env h (Apply p q) ok tokens y left d =
    let c = and_parts (has_no_end p) (has_no_end q) ok in
    let a = derives-endless env h p c.0 tokens d.0 d.1 d.2 in
    let b = derives-endless env h q c.1 d.1 d.3.0 d.3.1 d.3.2 in
    (a.0 ++ b.0, a.1 ∙ ap (λ (l : List Lexeme). a.0 ++ l) (b.1 ∙ ap (λ (l : List Lexeme). b.0 ++ l) d.3.3.1) ∙ sym (append_assoc a.0 b.0 left), goes_on-both a.0 b.0 a.2 b.2)
derives-endless env h (Either p q) ok tokens y left d = let c = and_parts (has_no_end p) (has_no_end q) ok in elim d [
  | inl w ↦ derives-endless env h p c.0 tokens y left w
  | inr w ↦ derives-endless env h q c.1 tokens y left w
]
derives-endless env h (Many p) ok tokens xs left d = many-endless (derives env p) (derives-endless env h p ok) tokens xs left d
derives-endless env h (ByRule r) ok tokens y left d = h r tokens y left d

each-level : (r : Level) → has_no_end (level_format r) ≡ true
unfolding level_format
each-level Whole = refl
each-level Disjunction = refl
each-level Conjunction = refl
each-level Negation = refl
each-level Comparison = refl
each-level Sum = refl
each-level Product = refl
each-level Unary = refl
each-level Primary = refl

nested-endless : (n : ℕ) (r : Level) → Endless (nested level_format n r)
nested-endless zero r tokens x left d = absurd d
nested-endless (suc n) r tokens x left d = derives-endless (nested level_format n) (nested-endless n) (level_format r) (each-level r) tokens x left d

-- ---- the word is the last token

end_is : (k : LexemeKind) → sort_of k ≡ AWord words.End → is_end_word k ≡ true
end_is (Reserved words.End) e = refl
end_is _ e = absurd cc

last_token : (t : Lexeme) (u rest : List Lexeme) → is_end_word t.kind ≡ true → GoesOn u → front_to_end ((u ++ t ∷ []) ++ rest) ≡ u ++ t ∷ []
last_token t u rest e g = ap front_to_end (append_assoc u (t ∷ []) rest) ∙ g (t ∷ rest) ∙ rw e refl

-- these tokens are the front, whatever is left
abbrev FrontBefore : List Lexeme → List Lexeme → Type 0
FrontBefore tokens left = (u : List Lexeme) × (tokens ≡ u ++ left) × ((rest : List Lexeme) → front_to_end (u ++ rest) ≡ u)

-- the format is one word `end`
abbrev is_end_part : {R V A : Type 0} → Format R V A → Bool
is_end_part (Single s f) = same_sort s (AWord words.End)
is_end_part _ = false

-- the format has one word `end`, its last token
abbrev has_last_end : {R V A : Type 0} → Format R V A → Bool
has_last_end (Apply p q) = has_no_end p && is_end_part q
has_last_end _ = false

the_word : {R V A : Type 0} (env : R → Grammar V) (q : Format R V A) → is_end_part q ≡ true → (between : List Lexeme) (x : A) (left : List Lexeme) → derives env q between x left → (t : Lexeme) × (between ≡ t ∷ left) × (is_end_word t.kind ≡ true)
the_word env (Single s f) ok [] x left d = absurd d
the_word env (Single s f) ok (t ∷ rest) x left d = (t, ap (λ (l : List Lexeme). t ∷ l) d.2, end_is t.kind (subst (λ (r : TokenSort). sort_as r t.kind ≡ r) (same_sort-true s (AWord words.End) ok) d.0))
the_word env _ ok between x left d = absurd cc

with_word : (tokens between left : List Lexeme) → (u : List Lexeme) × (tokens ≡ u ++ between) × GoesOn u → (t : Lexeme) × (between ≡ t ∷ left) × (is_end_word t.kind ≡ true) → FrontBefore tokens left
with_word tokens between left (u, e, g) (t, f, h) = (
  u ++ t ∷ [],
  e ∙ ap (λ (l : List Lexeme). u ++ l) f ∙ sym (append_assoc u (t ∷ []) left),
  λ others. last_token t u others h g,
)

ends-front : {A : Type 0} (f : LanguageFormat A) → has_last_end f ≡ true → (tokens : List Lexeme) (x : A) (left : List Lexeme) → Spells level_format f tokens x left → FrontBefore tokens left
ends-front (Apply p q) ok tokens x left d =
    let c = and_parts (has_no_end p) (is_end_part q) ok in
    with_word tokens d.1 left
    (derives-endless (by_rule level_format) (λ r others y rest e. nested-endless e.0 r others y rest e.1) p c.0 tokens d.0 d.1 d.2)
    (the_word (by_rule level_format) q c.1 d.1 d.3.0 left (subst (λ (l : List Lexeme). derives (by_rule level_format) q d.1 d.3.0 l) d.3.3.1 d.3.2))
ends-front _ ok tokens x left d = absurd cc

text-last : has_last_end text_format ≡ true
unfolding signed_format literal_format kind_format variable_format row_format table_format watch_format target_format choice_format source_format change_format values_format when_format delay_format timing_format schedule_format urgent_format cancelled_format cancel_format edge_format vertex_format version_format text_format
text-last = refl

text-front : (tokens : List Lexeme) (m : WrittenModel) (left : List Lexeme) → BeginsWithText tokens m left → FrontBefore tokens left
text-front = ends-front text_format text-last

-- tokens that begin with a text are one up to the word
pub front-is_text : (tokens : List Lexeme) (m : WrittenModel) (left : List Lexeme) → BeginsWithText tokens m left → (tokens ≡ front_to_end tokens ++ left) × IsText (front_to_end tokens) m
front-is_text tokens m left d =
    let a = text-front tokens m left d in
    let b = derives-framed (by_rule level_format) (rule-framed level_format) text_format tokens m left d in
    let same : b.0 ≡ a.0 = append_cancel_right b.0 a.0 left (sym b.1 ∙ a.1) in
    let front : front_to_end tokens ≡ b.0 = ap front_to_end a.1 ∙ a.2 left ∙ sym same in
    (b.1 ∙ ap (λ (l : List Lexeme). l ++ left) (sym front), subst (λ (l : List Lexeme). IsText l m) (append-nil b.0 ∙ sym front) (b.2 []))

pub text-is_front : (tokens : List Lexeme) (m : WrittenModel) (left : List Lexeme) → tokens ≡ front_to_end tokens ++ left → IsText (front_to_end tokens) m → BeginsWithText tokens m left
text-is_front tokens m left e d =
    let b = derives-framed (by_rule level_format) (rule-framed level_format) text_format (front_to_end tokens) m [] d in
    let all : b.0 ++ left ≡ tokens = ap (λ (l : List Lexeme). l ++ left) (sym (append-nil b.0) ∙ sym b.1) ∙ sym e in
    subst (λ (l : List Lexeme). BeginsWithText l m left) all (b.2 left)

-- ---- the first wrong token is the same

cut : (u : List Lexeme) → GoesOn u ⊎ ((r s : List Lexeme) → front_to_end (u ++ r) ≡ front_to_end (u ++ s))
cut [] = inl (λ rest. refl)
cut (t ∷ u) = go (is_end_word t.kind) refl (cut u)
  where
    go : (b : Bool) → is_end_word t.kind ≡ b → GoesOn u ⊎ ((r s : List Lexeme) → front_to_end (u ++ r) ≡ front_to_end (u ++ s)) → GoesOn (t ∷ u) ⊎ ((r s : List Lexeme) → front_to_end ((t ∷ u) ++ r) ≡ front_to_end ((t ∷ u) ++ s))
    go true e c = inr (λ r s. rw e refl)
    go false e (inl g) = inl (λ rest. rw e (ap (λ (l : List Lexeme). t ∷ l) (g rest)))
    go false e (inr g) = inr (λ r s. rw e (ap (λ (l : List Lexeme). t ∷ l) (g r s)))

cant_in_front : (u rest : List Lexeme) → CantGoOn text_format u rest → CantGoOn text_format u (front_to_end rest)
cant_in_front u [] c = c
cant_in_front u (t ∷ rest) c = c

pub wrong-in_front : (tokens rest : List Lexeme) → ((m : WrittenModel) → IsText (front_to_end tokens) m → ⊥) → FirstWrong text_format tokens rest → FirstWrong text_format (front_to_end tokens) (front_to_end rest)
wrong-in_front tokens rest none w = elim (cut w.front) [
  | inl g ↦ record { front = w.front; whole = ap front_to_end w.whole ∙ g rest; can_begin = w.can_begin; cant_go_on = cant_in_front w.front rest w.cant_go_on }
  | inr g ↦ absurd (
      let c = w.can_begin in
      let a = front-is_text (w.front ++ c.0) c.1 [] c.2 in
      none c.1 (subst (λ (l : List Lexeme). IsText l c.1) (sym (g rest c.0) ∙ sym (ap front_to_end w.whole)) a.1)
      )
]
