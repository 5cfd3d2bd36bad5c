-- The reader of a format: it computes what the format spells, or where it is stuck. A law says so.
use Rattle.std.specs.Prelude.{ℕ, zero, suc, ◌+◌, ◌*◌, if◌then◌else◌, List, [], ◌∷◌, ◌++◌, length, Result, Ok, Err}
use Rattle.model_core.specs.Text.Lexing.{Lexeme}
use Rattle.model_core.specs.Text.Format.{TokenSort, sort_as, Format, Yields, Single, Apply, Either, Many, ByRule}
use Rattle.text_laws.specs.FirstTokens.{same_sort, begins_among, Lookahead, first_sorts}

-- the value that was taken and the tokens that are left, or the tokens from the first that can't be at its place
abbrev pub Parse : Type 0 → Type 0
Parse A = Result (A × List Lexeme) (List Lexeme)

abbrev pub Parser : Type 0 → Type 0
Parser A = List Lexeme → Parse A

abbrev pub took : {A : Type 0} → A → Parser A
took x left = Ok (x, left)

abbrev pub stuck : {A : Type 0} → List Lexeme → Parse A
stuck rest = Err rest

abbrev pub and_next : {A B : Type 0} → (A → Parser B) → Parse A → Parse B
and_next next (Ok r) = next r.0 r.1
and_next next (Err rest) = Err rest

-- what is read, with others before it
abbrev pub with_front : {A : Type 0} → List A → Parse (List A) → Parse (List A)
with_front front parse = and_next (λ xs rest. took (front ++ xs) rest) parse

abbrev pub single_at : {A : Type 0} → TokenSort → (Lexeme → A) → Parser A
single_at s f [] = Err []
single_at s f (t ∷ tokens) = if same_sort (sort_as s t.kind) s then Ok (f t, tokens) else Err (t ∷ tokens)

unfoldable pub many_within : {A : Type 0} → ℕ → List TokenSort → Parser A → Parser (List A)
many_within zero sorts p tokens = if begins_among sorts tokens then Err tokens else Ok ([], tokens)
many_within (suc n) sorts p tokens = if begins_among sorts tokens then and_next (λ x left. and_next (λ xs rest. Ok (x ∷ xs, rest)) (many_within n sorts p left)) (p tokens) else Ok ([], tokens)

unfoldable pub many_at : {A : Type 0} → List TokenSort → Parser A → Parser (List A)
many_at sorts p tokens = many_within (length tokens) sorts p tokens

abbrev pub reads : {R V A : Type 0} → Lookahead R → (R → Parser V) → Format R V A → Parser A
reads t rules (Yields x) tokens = Ok (x, tokens)
reads t rules (Single s f) tokens = single_at s f tokens
reads t rules (Apply p q) tokens = and_next (λ f left. and_next (λ x rest. Ok (f x, rest)) (reads t rules q left)) (reads t rules p tokens)
reads t rules (Either p q) tokens = if begins_among (first_sorts t p) tokens then reads t rules p tokens else reads t rules q tokens
reads t rules (Many p) tokens = many_at (first_sorts t p) (reads t rules p) tokens
reads t rules (ByRule r) tokens = rules r tokens

unfoldable pub read_within : {R V : Type 0} → Lookahead R → (R → Format R V V) → ℕ → R → Parser V
read_within t rules zero r tokens = Err tokens
read_within t rules (suc n) r tokens = reads t (read_within t rules n) (rules r) tokens

-- so many rules inside one another are always enough, where each rank is below 16
unfoldable pub rule_at : {R V : Type 0} → Lookahead R → (R → Format R V V) → R → Parser V
rule_at t rules r tokens = read_within t rules (length tokens * 16 + suc (t.rank r)) r tokens

abbrev pub format_at : {R V A : Type 0} → Lookahead R → (R → Format R V V) → Format R V A → Parser A
format_at t rules f = reads t (rule_at t rules) f

-- the value, where no token is left
abbrev pub whole_read : {A : Type 0} → A → Parser A
whole_read x [] = took x []
whole_read x (t ∷ tokens) = stuck (t ∷ tokens)
