-- What words give, joined one by one: each option is declared and comes once, and one word is to be the command.
use Rattle.std.proofs.Common.{◌≡◌, ◌∙◌, ◌&&◌, ◌||◌, ℕ, Bool, true, false, cond, not, bytes_eq, refl, ap, List, [], ◌∷◌, ◌++◌, Option, Some, None, map, codes}
use Rattle.std.proofs.lemmas.List.{map-append}
use Rattle.std.proofs.lemmas.List.Folds.{list_any-append}
use Rattle.std.proofs.lemmas.Bool.{or_right}
use Rattle.std.proofs.Math.Bool.{or-false}
use Rattle.clap.specs.Walk.{Row, at_row, has_row, reading_by}
use Rattle.clap.specs.declared.parser.matches.ValueSource.TheVariants.{CommandLine}
use Rattle.command_words.specs.Arguments.{PlainArgument, CommandWord, Setting}
use Rattle.command_words.proofs.RulesByName.{built_word, has_name}

abbrev pub Arguments : Type 0
Arguments = List PlainArgument

-- what `clap` calls it, and its text
abbrev pub id_of : PlainArgument → List ℕ
id_of (CommandWord word) = codes "command"
id_of (Setting name value) = name

abbrev pub text_of : PlainArgument → List ℕ
text_of (CommandWord word) = word
text_of (Setting name value) = value

-- its row among the matches
abbrev pub row_for : PlainArgument → Row
row_for x = record { id = id_of x; values = text_of x ∷ []; count = None; source = Some CommandLine; reading = reading_by built_word }

abbrev pub rows_for : Arguments → List Row
rows_for given = map row_for given

-- the argument is a word, or an option of one of these names
abbrev pub is_declared : List (List ℕ) → PlainArgument → Bool
is_declared names (CommandWord word) = true
is_declared names (Setting name value) = has_name names name

-- it is given already
abbrev pub is_given : Arguments → PlainArgument → Bool
is_given given x = has_row (id_of x) (rows_for given)

abbrev pub has_command : Arguments → Bool
has_command given = has_row (codes "command") (rows_for given)

-- it may join those that are given
abbrev pub may_join : List (List ℕ) → Arguments → PlainArgument → Bool
may_join names given x = is_declared names x && not (is_given given x)

-- more arguments may join one by one, and the command is among all
abbrev pub fits : List (List ℕ) → Arguments → Arguments → Bool
fits names given [] = has_command given
fits names given (x ∷ more) = may_join names given x && fits names (given ++ x ∷ []) more

-- all arguments, where those after the first ones may join
abbrev pub joined : List (List ℕ) → Arguments → Arguments → Option Arguments
joined names given more = cond (fits names given more) (Some (given ++ more)) None

-- ---- rows

-- what has no row gets one at the end
pub row_added : (id : List ℕ) (change : Row → List Row) (missing : List Row) (rows : List Row) → has_row id rows ≡ false → at_row id change missing rows ≡ rows ++ missing
row_added id change missing [] none = refl
row_added id change missing (r ∷ rows) none = go (bytes_eq r.id id) refl (row_added id change missing rows)
  where
    go : (b : Bool) → bytes_eq r.id id ≡ b → (has_row id rows ≡ false → at_row id change missing rows ≡ rows ++ missing) → at_row id change missing (r ∷ rows) ≡ r ∷ rows ++ missing
    go true e rest = absurd (let wrong : true ≡ false = rw e at none in cc)
    go false e rest = rw e (ap (λ rs. r ∷ rs) (rest (rw e at none)))

-- the rows of one more argument
pub rows_more : (given : Arguments) (x : PlainArgument) → rows_for (given ++ x ∷ []) ≡ rows_for given ++ row_for x ∷ []
rows_more given x = map-append row_for given (x ∷ [])

-- after a word there is a command, and an option leaves that as it was
pub command_more : (given : Arguments) (word : List ℕ) → has_command (given ++ CommandWord word ∷ []) ≡ true
command_more given word = ap (has_row (codes "command")) (rows_more given (CommandWord word)) ∙ list_any-append _ (rows_for given) (row_for (CommandWord word) ∷ []) ∙ or_right (has_command given) true refl

pub row_more : (id : List ℕ) (given : Arguments) (x : PlainArgument) (b : Bool) → bytes_eq (id_of x) id ≡ b → has_row id (rows_for (given ++ x ∷ [])) ≡ (has_row id (rows_for given) || b)
row_more id given x b e = ap (has_row id) (rows_more given x) ∙ list_any-append _ (rows_for given) (row_for x ∷ []) ∙ ap (λ t. has_row id (rows_for given) || t) (or-false (bytes_eq (id_of x) id) ∙ e)
