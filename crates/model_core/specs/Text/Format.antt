-- Formats: which tokens spell a value, as data. A rule of a grammar is a format, and what it derives follows from its form.
use Rattle.std.specs.Prelude.{◌≡◌, ℕ, zero, suc, ℤ, List, [], ◌∷◌, Option, Some, None}
use Rattle.model_core.specs.declared.token.Word.{Word}
use Rattle.model_core.specs.declared.token.Symbol.{Symbol}
use Rattle.model_core.specs.declared.token.Symbol.TheVariants as symbols
use Rattle.model_core.specs.Text.Lexing.{Lexeme, LexemeKind, NameOf, Reserved, NumberOf, Mark}
use Rattle.model_core.specs.Text.Written.{WrittenName, WrittenNumber}
use Rattle.model_core.specs.Text.Grammar.{Grammar, gives, ◌>>=◌, ◌or◌, many}

-- the sorts of tokens that a grammar distinguishes: any name, the name with this spelling, any number, this reserved word,
-- this symbol
pub data TokenSort : Type 0 where
  AName : TokenSort
  ASpelled : List ℕ → TokenSort
  ANumber : TokenSort
  AWord : Word → TokenSort
  ASymbol : Symbol → TokenSort

abbrev pub sort_of : LexemeKind → TokenSort
sort_of (NameOf bytes) = AName
sort_of (Reserved w) = AWord w
sort_of (NumberOf value exact) = ANumber
sort_of (Mark s) = ASymbol s

-- the sort of a token, as a search for a token of a sort sees it: only a search for a spelling sees that of a name
abbrev pub sort_as : TokenSort → LexemeKind → TokenSort
sort_as (ASpelled bytes) (NameOf spelling) = ASpelled spelling
sort_as s kind = sort_of kind

-- A format of values of A, where each rule of R is a format of V: no token, one token of a sort, one part and then the
-- next, one of two, any number of a part, or a rule by its name.
pub data Format (R : Type 0) (V : Type 0) : Type 0 → Type 1 where
  Yields : {A : Type 0} → A → Format R V A
  Single : {A : Type 0} → TokenSort → (Lexeme → A) → Format R V A
  Apply : {A B : Type 0} → Format R V (A → B) → Format R V A → Format R V B
  Either : {A : Type 0} → Format R V A → Format R V A → Format R V A
  Many : {A : Type 0} → Format R V A → Format R V (List A)
  ByRule : R → Format R V V

-- one token of this sort, and the value of it
abbrev pub single : {A : Type 0} → TokenSort → (Lexeme → A) → Grammar A
single s f [] value left = ⊥
single s f (t ∷ tokens) value left = (sort_as s t.kind ≡ s) × (f t ≡ value) × (tokens ≡ left)

-- what a format derives, where each rule derives this
abbrev pub derives : {R V A : Type 0} → (R → Grammar V) → Format R V A → Grammar A
derives rules (Yields x) = gives x
derives rules (Single s f) = single s f
derives rules (Apply p q) = derives rules p >>= λ f. derives rules q >>= λ x. gives (f x)
derives rules (Either p q) = derives rules p or derives rules q
derives rules (Many p) = many (derives rules p)
derives rules (ByRule r) = rules r

-- what a rule derives with at most so many rules inside one another
abbrev pub nested : {R V : Type 0} → (R → Format R V V) → ℕ → R → Grammar V
nested rules zero r tokens value left = ⊥
nested rules (suc n) r tokens value left = derives (nested rules n) (rules r) tokens value left

-- what a rule derives
abbrev pub by_rule : {R V : Type 0} → (R → Format R V V) → R → Grammar V
by_rule rules r tokens value left = (n : ℕ) × nested rules n r tokens value left

-- By these rules, the tokens begin with what the format spells as the value, and the others are left.
abbrev pub Spells : {R V A : Type 0} → (R → Format R V V) → Format R V A → Grammar A
Spells rules f = derives (by_rule rules) f

-- ---- small parts

abbrev pub name_bytes : LexemeKind → List ℕ
name_bytes (NameOf bytes) = bytes
name_bytes _ = []

abbrev pub number_value : LexemeKind → Option ℤ
number_value (NumberOf value exact) = value
number_value _ = None

-- what the digits of a number write, however great
abbrev pub number_exact : LexemeKind → ℕ
number_exact (NumberOf value exact) = exact
number_exact _ = 0

-- a reserved word and a symbol, as their places
abbrev pub reserved : {R V : Type 0} → Word → Format R V ℕ
reserved w = Single (AWord w) (λ t. t.from)

abbrev pub mark : {R V : Type 0} → Symbol → Format R V ℕ
mark s = Single (ASymbol s) (λ t. t.from)

-- a name with this spelling, as its place
abbrev pub this_name : {R V : Type 0} → List ℕ → Format R V ℕ
this_name bytes = Single (ASpelled bytes) (λ t. t.from)

-- a name and a number, with their places
abbrev pub any_name : {R V : Type 0} → Format R V WrittenName
any_name = Single AName (λ t. record { name = name_bytes t.kind; at = t.from })

abbrev pub any_number : {R V : Type 0} → Format R V WrittenNumber
any_number = Single ANumber (λ t. record { value = number_value t.kind; at = t.from })

-- one part and then the next: both go into the value, or the first alone, or the second alone
infixl 10 ◌<*>◌
abbrev pub ◌<*>◌ : {R V A B : Type 0} → Format R V (A → B) → Format R V A → Format R V B
p <*> q = Apply p q

infixl 10 ◌<*◌
abbrev pub ◌<*◌ : {R V A B : Type 0} → Format R V A → Format R V B → Format R V A
p <* q = Apply (Apply (Yields (λ x y. x)) p) q

infixl 10 ◌*>◌
abbrev pub ◌*>◌ : {R V A B : Type 0} → Format R V A → Format R V B → Format R V B
p *> q = Apply (Apply (Yields (λ x y. y)) p) q

-- one of two
infixl 9 ◌<|>◌
abbrev pub ◌<|>◌ : {R V A : Type 0} → Format R V A → Format R V A → Format R V A
p <|> q = Either p q

-- the part, or nothing
abbrev pub maybe : {R V A : Type 0} → Format R V A → Format R V (Option A)
maybe p = Yields (λ x. Some x) <*> p <|> Yields None

-- one or more
abbrev pub at_least_one : {R V A : Type 0} → Format R V A → Format R V (List A)
at_least_one p = Yields (λ x xs. x ∷ xs) <*> p <*> Many p

-- one or more, separated by commas
abbrev pub separated : {R V A : Type 0} → Format R V A → Format R V (List A)
separated p = Yields (λ x xs. x ∷ xs) <*> p <*> Many (mark symbols.Comma *> p)
