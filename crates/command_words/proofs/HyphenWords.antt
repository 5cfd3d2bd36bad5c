-- Words that begin with `-` and are to be the command: where there is none of them, each name has its value.
use Rattle.std.proofs.Common.{◌≡◌, ◌∙◌, ◌||◌, ◌⊎◌, inl, inr, ℕ, Bool, true, false, cond, not, refl, sym, ap, subst, drop, List, [], ◌∷◌, Option, Some, None, map, option_map}
use Rattle.std.specs.Prelude.{IfSome}
use Rattle.std.specs.List.{list_any}
use Rattle.clap.specs.Lexer.{name_and_value}
use Rattle.command_words.specs.Arguments.{PlainArgument, CommandWord, Setting, TwoDashes, NameWithValue, NameAlone, OtherForm, arguments_of, command_words, form_of, is_value, last_argument, named_argument, next_arguments}
use Rattle.command_words.specs.Inner.ClapCommand.{has_one_dash}
use Rattle.command_words.proofs.Spelling.{Spelling, cut-is, dashes, form_cut, named, one_dash, one_dash-is, plain, plain-is, spelling}
use Rattle.command_words.proofs.JoinedArguments.{Arguments}
use Rattle.command_words.proofs.WholeArguments.{whole, whole_attached, whole_dashes, whole_last_name, whole_named, whole_other}

-- a word that begins with `-` is to be the command
abbrev pub begins_with_hyphen : List ℕ → Bool
begins_with_hyphen word = not (is_value word)

abbrev pub has_hyphen : Arguments → Bool
has_hyphen given = list_any begins_with_hyphen (command_words given)

-- ---- what the words give, by the form of the first

arguments_dashes : (word : List ℕ) (words : List (List ℕ)) → form_of word ≡ TwoDashes → arguments_of (word ∷ words) ≡ map (λ w. CommandWord w) words
arguments_dashes word [] form = ap (last_argument word) form
arguments_dashes word (next ∷ words) form = ap (λ f. next_arguments word f next words (arguments_of (next ∷ words)) (arguments_of words)) form

arguments_attached : (word name value : List ℕ) (words : List (List ℕ)) → form_of word ≡ NameWithValue name value → arguments_of (word ∷ words) ≡ Setting name value ∷ arguments_of words
arguments_attached word name value [] form = ap (last_argument word) form
arguments_attached word name value (next ∷ words) form = ap (λ f. next_arguments word f next words (arguments_of (next ∷ words)) (arguments_of words)) form

arguments_other : (word : List ℕ) (words : List (List ℕ)) → form_of word ≡ OtherForm → arguments_of (word ∷ words) ≡ CommandWord word ∷ arguments_of words
arguments_other word [] form = ap (last_argument word) form
arguments_other word (next ∷ words) form = ap (λ f. next_arguments word f next words (arguments_of (next ∷ words)) (arguments_of words)) form

arguments_named : (word name next : List ℕ) (words : List (List ℕ)) → form_of word ≡ NameAlone name
    → arguments_of (word ∷ next ∷ words) ≡ named_argument name word (is_value next) next (arguments_of (next ∷ words)) (arguments_of words)
arguments_named word name next words form = ap (λ f. next_arguments word f next words (arguments_of (next ∷ words)) (arguments_of words)) form

-- ---- words with one dash

words_again : (words : List (List ℕ)) → command_words (map (λ w. CommandWord w) words) ≡ words
words_again [] = refl
words_again (w ∷ words) = ap (λ ws. w ∷ ws) (words_again words)

one_dash_begins : (words : List (List ℕ)) → list_any has_one_dash words ≡ true → list_any begins_with_hyphen words ≡ true
one_dash_begins [] some = some
one_dash_begins (w ∷ words) some = go (has_one_dash w) refl (one_dash_begins words)
  where
    go : (b : Bool) → has_one_dash w ≡ b → (list_any has_one_dash words ≡ true → list_any begins_with_hyphen words ≡ true) → (begins_with_hyphen w || list_any begins_with_hyphen words) ≡ true
    go true e rest = rw (one_dash-is w e).0
    go false e rest = either (begins_with_hyphen w) (rest (rw e at some))
      where
        either : (b : Bool) → list_any begins_with_hyphen words ≡ true → (b || list_any begins_with_hyphen words) ≡ true
        either true h = refl
        either false h = h

value_no_dash : (word : List ℕ) → is_value word ≡ true → has_one_dash word ≡ false
value_no_dash word value = go (has_one_dash word) refl
  where
    go : (b : Bool) → has_one_dash word ≡ b → b ≡ false
    go false e = refl
    go true e = sym value ∙ (one_dash-is word e).0

-- ---- three facts of words: whether one has one dash, what they give, and that where each name has its value

record HyphenFacts (some : Bool) (given : Arguments) (all_given : Option Arguments) : Type 0 where
  -- a word with one dash is to be the command
  one : some ≡ true → has_hyphen given ≡ true
  -- where no word that begins with `-` is to be the command, each name has its value
  each : has_hyphen given ≡ false → all_given ≡ Some given
  -- and then these are what is given
  same : IfSome all_given (λ all. all ≡ given)

abbrev HyphenFactsOf : List (List ℕ) → Type 0
HyphenFactsOf words = HyphenFacts (list_any has_one_dash words) (arguments_of words) (whole words)

facts_by_forms : (word : List ℕ) (words : List (List ℕ)) (given : Arguments) (all_given : Option Arguments) → arguments_of (word ∷ words) ≡ given → whole (word ∷ words) ≡ all_given
    → HyphenFacts (list_any has_one_dash (word ∷ words)) given all_given → HyphenFactsOf (word ∷ words)
facts_by_forms word words given all_given e w facts = subst (λ g. HyphenFacts (list_any has_one_dash (word ∷ words)) g (whole (word ∷ words))) (sym e) (subst (λ o. HyphenFacts (list_any has_one_dash (word ∷ words)) given o) (sym w) facts)

-- one argument more
one_more : (x : PlainArgument) (given : Arguments) (o : Option Arguments) → IfSome o (λ all. all ≡ given) → IfSome (option_map (λ more. x ∷ more) o) (λ all. all ≡ x ∷ given)
one_more x given None e = tt
one_more x given (Some all) e = ap (λ more. x ∷ more) e

-- an option with its value comes before the rest
with_setting : (word name value : List ℕ) (some : Bool) (given : Arguments) (all_given : Option Arguments) → has_one_dash word ≡ false → HyphenFacts some given all_given
    → HyphenFacts (has_one_dash word || some) (Setting name value ∷ given) (option_map (λ more. Setting name value ∷ more) all_given)
with_setting word name value some given all_given no_dash facts = record {
  one = λ e. facts.one (rw no_dash at e);
  each = λ e. ap (option_map (λ more. Setting name value ∷ more)) (facts.each e);
  same = one_more (Setting name value) given all_given facts.same;
}

-- a word that is to be the command, and begins with `-` or not
with_word : (word : List ℕ) (some : Bool) (given : Arguments) (all_given : Option Arguments) → (is_value word ≡ true) ⊎ (is_value word ≡ false) → HyphenFacts some given all_given
    → HyphenFacts (has_one_dash word || some) (CommandWord word ∷ given) (option_map (λ more. CommandWord word ∷ more) all_given)
with_word word some given all_given (inl value) facts = record {
  one = λ e. rw value (facts.one (rw (value_no_dash word value) at e));
  each = λ e. ap (option_map (λ more. CommandWord word ∷ more)) (facts.each (rw value at e));
  same = one_more (CommandWord word) given all_given facts.same;
}
with_word word some given all_given (inr hyphen) facts = record {
  one = λ e. rw hyphen refl;
  each = λ e. absurd (let wrong : true ≡ false = rw hyphen at e in cc);
  same = one_more (CommandWord word) given all_given facts.same;
}

-- a name without its value
without_value : (word : List ℕ) (some : Bool) (given : Arguments) → is_value word ≡ false → HyphenFacts some (CommandWord word ∷ given) None
without_value word some given hyphen = record {
  one = λ e. rw hyphen refl;
  each = λ e. absurd (let wrong : true ≡ false = rw hyphen at e in cc);
  same = tt;
}

facts_of_name : (word name : List ℕ) (words : List (List ℕ)) → is_value word ≡ false → has_one_dash word ≡ false → form_of word ≡ NameAlone name → HyphenFactsOf (drop 1 words) → HyphenFactsOf (word ∷ words)
facts_of_name word name [] hyphen no_dash form later =
    facts_by_forms word [] (CommandWord word ∷ []) None (ap (last_argument word) form) (whole_last_name word name form) (without_value word _ [] hyphen)
facts_of_name word name (next ∷ words) hyphen no_dash form later =
    facts_by_forms word (next ∷ words) _ _ (arguments_named word name next words form) (whole_named word name next words form) (go (is_value next) refl)
  where
    go : (b : Bool) → is_value next ≡ b
        → HyphenFacts (list_any has_one_dash (word ∷ next ∷ words)) (named_argument name word b next (arguments_of (next ∷ words)) (arguments_of words)) (cond b (option_map (λ more. Setting name next ∷ more) (whole words)) None)
    go true e = with_setting word name next (list_any has_one_dash (next ∷ words)) (arguments_of words) (whole words) no_dash (rw (value_no_dash next e) later)
    go false e = without_value word _ (arguments_of (next ∷ words)) hyphen

facts_of_word : (word : List ℕ) (words : List (List ℕ)) → HyphenFactsOf words → HyphenFactsOf (drop 1 words) → HyphenFactsOf (word ∷ words)
facts_of_word word words rest later = go (spelling word)
  where
    long : (name : List ℕ) (value : Option (List ℕ)) → is_value word ≡ false → has_one_dash word ≡ false → form_of word ≡ form_cut (name, value) → HyphenFactsOf (word ∷ words)
    long name None hyphen no_dash form = facts_of_name word name words hyphen no_dash form later
    long name (Some value) hyphen no_dash form =
        facts_by_forms word words _ _ (arguments_attached word name value words form) (whole_attached word name value words form)
        (with_setting word name value (list_any has_one_dash words) (arguments_of words) (whole words) no_dash rest)

    go : Spelling word → HyphenFactsOf (word ∷ words)
    go (dashes is) = facts_by_forms word words _ _ (arguments_dashes word words (ap form_of is)) (whole_dashes word words (ap form_of is)) (record {
      one = λ e. ap (list_any begins_with_hyphen) (words_again words) ∙ one_dash_begins words (rw (ap has_one_dash is) at e);
      each = λ e. refl;
      same = refl;
    })
    go (named c text is) = long (name_and_value (c ∷ text)).0 (name_and_value (c ∷ text)).1 (ap is_value is) (ap has_one_dash is) (ap form_of is ∙ cut-is (c ∷ text))
    go (plain value) =
        facts_by_forms word words _ _ (arguments_other word words (plain-is word value).other) (whole_other word words (plain-is word value).other)
        (with_word word (list_any has_one_dash words) (arguments_of words) (whole words) (inl value) rest)
    go (one_dash one) =
        facts_by_forms word words _ _ (arguments_other word words (one_dash-is word one).1) (whole_other word words (one_dash-is word one).1)
        (with_word word (list_any has_one_dash words) (arguments_of words) (whole words) (inr (one_dash-is word one).0) rest)

facts_of_both : (words : List (List ℕ)) → HyphenFactsOf words × HyphenFactsOf (drop 1 words)
facts_of_both [] = (nothing, nothing)
  where
    nothing : HyphenFactsOf []
    nothing = record { one = λ e. e; each = λ e. refl; same = refl }
facts_of_both (word ∷ words) = (facts_of_word word words (facts_of_both words).0 (facts_of_both words).1, (facts_of_both words).0)

-- a word with one dash is to be the command
pub one_dash-hyphen : (words : List (List ℕ)) → list_any has_one_dash words ≡ true → has_hyphen (arguments_of words) ≡ true
one_dash-hyphen words = (facts_of_both words).0.one

-- where no word that begins with `-` is to be the command, each name has its value
pub no_hyphen-whole : (words : List (List ℕ)) → has_hyphen (arguments_of words) ≡ false → whole words ≡ Some (arguments_of words)
no_hyphen-whole words = (facts_of_both words).0.each

-- where each name has its value, these are what the words give
pub whole-given : (words : List (List ℕ)) → IfSome (whole words) (λ all. all ≡ arguments_of words)
whole-given words = (facts_of_both words).0.same
