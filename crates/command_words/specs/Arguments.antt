-- What the words of the command line give, read from left to right: words that are to be the command, and options with
-- their values.
use Rattle.std.specs.Prelude.{ℕ, ◌+◌, ◌==◌, Bool, true, false, not, ◌&&◌, nat_eq, if◌then◌else◌, List, [], ◌∷◌, take, drop, map, codes, Option, Some, None}
use Rattle.std.specs.List.{starts_with, position, list_any}
use lib.Pointwise.{pointwise}

-- a word that is to be the command, or an option by its name and its value
pub data PlainArgument : Type 0 where
  CommandWord : List ℕ → PlainArgument
  Setting : List ℕ → List ℕ → PlainArgument

-- how a word is spelled: `--`, `--NAME=VALUE`, `--NAME`, or otherwise
pub data WordForm : Type 0 where
  TwoDashes : WordForm
  NameWithValue : List ℕ → List ℕ → WordForm
  NameAlone : List ℕ → WordForm
  OtherForm : WordForm

-- what comes after the two dashes of a word is cut at the first `=`
abbrev pub cut_at : List ℕ → Option ℕ → WordForm
cut_at text (Some i) = NameWithValue (take i text) (drop (i + 1) text)
cut_at text None = NameAlone text

-- the form of a word with two dashes before this text
abbrev pub form_after_dashes : List ℕ → WordForm
form_after_dashes [] = TwoDashes
form_after_dashes (c ∷ text) = cut_at (c ∷ text) (position (λ b. b == 61) (c ∷ text))

-- the form of a word
abbrev pub form_of : List ℕ → WordForm
form_of word = if starts_with nat_eq word (codes "--") then form_after_dashes (drop 2 word) else OtherForm

-- the word may be the value of the option before it
abbrev pub is_value : List ℕ → Bool
is_value word = not (starts_with nat_eq word (codes "-"))

-- the last word has no value after it
abbrev pub last_argument : List ℕ → WordForm → List PlainArgument
last_argument word TwoDashes = []
last_argument word (NameWithValue name value) = Setting name value ∷ []
last_argument word (NameAlone name) = CommandWord word ∷ []
last_argument word OtherForm = CommandWord word ∷ []

-- a word before another one, which its name takes as its value where it may be one
abbrev pub named_argument : List ℕ → List ℕ → Bool → List ℕ → List PlainArgument → List PlainArgument → List PlainArgument
named_argument name word true next from_next after_next = Setting name next ∷ after_next
named_argument name word false next from_next after_next = CommandWord word ∷ from_next

-- what a word of this form gives before another one
abbrev pub next_arguments : List ℕ → WordForm → List ℕ → List (List ℕ) → List PlainArgument → List PlainArgument → List PlainArgument
next_arguments word TwoDashes next words from_next after_next = map (λ w. CommandWord w) (next ∷ words)
next_arguments word (NameWithValue name value) next words from_next after_next = Setting name value ∷ from_next
next_arguments word (NameAlone name) next words from_next after_next = named_argument name word (is_value next) next from_next after_next
next_arguments word OtherForm next words from_next after_next = CommandWord word ∷ from_next

-- What the words give. The first `--` counts for nothing, and each word after it is to be the command. Before it,
-- `--NAME=VALUE` gives an option, and so do `--NAME` and the next word, where that doesn't begin with `-`. Every other
-- word is to be the command.
abbrev pub arguments_of : List (List ℕ) → List PlainArgument
arguments_of [] = []
arguments_of (word ∷ []) = last_argument word (form_of word)
arguments_of (word ∷ next ∷ words) = next_arguments word (form_of word) next words (arguments_of (next ∷ words)) (arguments_of words)

-- the words that are to be the command
abbrev pub command_words : List PlainArgument → List (List ℕ)
command_words [] = []
command_words (CommandWord word ∷ given) = word ∷ command_words given
command_words (Setting name value ∷ given) = command_words given

-- the values that are given to the option of this name
abbrev pub values_of : List ℕ → List PlainArgument → List (List ℕ)
values_of name [] = []
values_of name (CommandWord word ∷ given) = values_of name given
values_of name (Setting other value ∷ given) = if pointwise nat_eq other name then value ∷ values_of name given else values_of name given

-- whether each option that is given has one of these names
abbrev pub has_only_options : List (List ℕ) → List PlainArgument → Bool
has_only_options names [] = true
has_only_options names (CommandWord word ∷ given) = has_only_options names given
has_only_options names (Setting name value ∷ given) = list_any (λ n. pointwise nat_eq name n) names && has_only_options names given
