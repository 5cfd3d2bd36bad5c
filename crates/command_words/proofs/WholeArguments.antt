-- The arguments of words where each name before `--` has its value.
use Rattle.std.proofs.Common.{◌≡◌, ℕ, cond, ap, List, [], ◌∷◌, Option, Some, None, map, option_map}
use Rattle.command_words.specs.Arguments.{CommandWord, Setting, WordForm, TwoDashes, NameWithValue, NameAlone, OtherForm, form_of, is_value}
use Rattle.command_words.proofs.JoinedArguments.{Arguments}

abbrev pub last_whole : List ℕ → WordForm → Option Arguments
last_whole word TwoDashes = Some []
last_whole word (NameWithValue name value) = Some (Setting name value ∷ [])
last_whole word (NameAlone name) = None
last_whole word OtherForm = Some (CommandWord word ∷ [])

abbrev pub next_whole : List ℕ → WordForm → List ℕ → List (List ℕ) → Option Arguments → Option Arguments → Option Arguments
next_whole word TwoDashes next words from_next after_next = Some (map (λ w. CommandWord w) (next ∷ words))
next_whole word (NameWithValue name value) next words from_next after_next = option_map (λ given. Setting name value ∷ given) from_next
next_whole word (NameAlone name) next words from_next after_next = cond (is_value next) (option_map (λ given. Setting name next ∷ given) after_next) None
next_whole word OtherForm next words from_next after_next = option_map (λ given. CommandWord word ∷ given) from_next

-- what the words give, or `None` where a name before `--` has no value
abbrev pub whole : List (List ℕ) → Option Arguments
whole [] = Some []
whole (word ∷ []) = last_whole word (form_of word)
whole (word ∷ next ∷ words) = next_whole word (form_of word) next words (whole (next ∷ words)) (whole words)

pub whole_dashes : (word : List ℕ) (words : List (List ℕ)) → form_of word ≡ TwoDashes → whole (word ∷ words) ≡ Some (map (λ w. CommandWord w) words)
whole_dashes word [] form = ap (last_whole word) form
whole_dashes word (next ∷ words) form = ap (λ f. next_whole word f next words (whole (next ∷ words)) (whole words)) form

pub whole_attached : (word name value : List ℕ) (words : List (List ℕ)) → form_of word ≡ NameWithValue name value
    → whole (word ∷ words) ≡ option_map (λ given. Setting name value ∷ given) (whole words)
whole_attached word name value [] form = ap (last_whole word) form
whole_attached word name value (next ∷ words) form = ap (λ f. next_whole word f next words (whole (next ∷ words)) (whole words)) form

pub whole_other : (word : List ℕ) (words : List (List ℕ)) → form_of word ≡ OtherForm → whole (word ∷ words) ≡ option_map (λ given. CommandWord word ∷ given) (whole words)
whole_other word [] form = ap (last_whole word) form
whole_other word (next ∷ words) form = ap (λ f. next_whole word f next words (whole (next ∷ words)) (whole words)) form

pub whole_last_name : (word name : List ℕ) → form_of word ≡ NameAlone name → whole (word ∷ []) ≡ None
whole_last_name word name form = ap (last_whole word) form

pub whole_named : (word name next : List ℕ) (words : List (List ℕ)) → form_of word ≡ NameAlone name
    → whole (word ∷ next ∷ words) ≡ cond (is_value next) (option_map (λ given. Setting name next ∷ given) (whole words)) None
whole_named word name next words form = ap (λ f. next_whole word f next words (whole (next ∷ words)) (whole words)) form
