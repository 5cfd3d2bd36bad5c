-- The job of the words is that of `clap`'s matches.
use Rattle.std.proofs.Common.{◌≡◌, ◌∙◌, ◌&&◌, ◌||◌, ℕ, Bool, true, false, cond, not, nat_eq, bytes_eq, is_some, refl, sym, ap, ap₂, subst, arith, List, [], ◌∷◌, Option, Some, None, codes, option_map, option_and_then, option_to_list}
use Rattle.std.specs.Prelude.{IfSome}
use Rattle.std.specs.List.{list_all, list_any}
use Rattle.std.proofs.lemmas.Bool.Decides.{nat_tests}
use Rattle.std.proofs.lemmas.Bool.{and_parts}
use lib.Pointwise.{pointwise}
use Rattle.clap.specs.Walk.{Text, first_of}
use Rattle.command_words.specs.declared.job.Job.{Job}
use Rattle.command_words.specs.Arguments.{CommandWord, Setting, arguments_of, command_words, has_only_options, is_value, values_of}
use Rattle.command_words.specs.Jobs.{OptionsFor, job_asked, job_of, only_word, options_of}
use Rattle.command_words.specs.Inner.ClapCommand.{clap_rows, has_one_dash, option_names}
use Rattle.command_words.specs.Inner.MatchedJobs.{asked_by, has_only, matched_job}
use Rattle.command_words.proofs.RulesByName.{itself, has_name, same_name}
use Rattle.command_words.proofs.JoinedArguments.{Arguments, fits, joined, rows_for}
use Rattle.command_words.proofs.ClapTakes.{rows_with}
use Rattle.command_words.proofs.ClapLaw.{clap_answers}
use Rattle.command_words.proofs.FittingArguments.{command_once, option_once, options_declared}
use Rattle.command_words.proofs.JobOptions.{Keeps, IsLawful, asks, asks_fits, not_given, options_lawful}
use Rattle.command_words.proofs.HyphenWords.{begins_with_hyphen, has_hyphen, no_hyphen-whole, one_dash-hyphen, whole-given}
use Rattle.command_words.proofs.WholeArguments.{whole}

-- ---- a word that begins with `-` is no command

no_command : (word : List ℕ) → is_value word ≡ false → options_of word ≡ None
no_command [] hyphen = absurd (let wrong : true ≡ false = hyphen in cc)
no_command (b ∷ rest) hyphen = go (nat_eq 45 b) refl
  where
    go : (t : Bool) → nat_eq 45 b ≡ t → options_of (b ∷ rest) ≡ None
    go true e = let is : 45 ≡ b = grind (arith, nat_tests) in subst (λ c. options_of (c ∷ rest) ≡ None) is refl
    go false e = absurd (let wrong : true ≡ false = rw e at hyphen in cc)

-- nor is any of the words where one begins so
no_word : (words : List (List ℕ)) → list_any begins_with_hyphen words ≡ true → option_and_then options_of (only_word words) ≡ None
no_word [] some = refl
no_word (word ∷ []) some = no_command word (go (is_value word) some)
  where
    go : (b : Bool) → (not b || false) ≡ true → b ≡ false
    go false e = refl
    go true e = sym e
no_word (word ∷ other ∷ words) some = refl

hyphen_no_job : (words : List (List ℕ)) → has_hyphen (arguments_of words) ≡ true → job_of words ≡ None
hyphen_no_job words some = ap (job_asked (arguments_of words)) (no_word (command_words (arguments_of words)) some)

-- words with one dash are no job
pub one_dash_no_job : (words : List (List ℕ)) → list_any has_one_dash words ≡ true → job_of words ≡ None
one_dash_no_job words some = hyphen_no_job words (one_dash-hyphen words some)

-- ---- the job of the matches

-- each option that is given is one of these
all_each : (test : Text → Bool) (names : List Text) → ((name : Text) → has_name names name ≡ true → test name ≡ true) → list_all test names ≡ true
all_each test [] each = refl
all_each test (n ∷ names) each =
    ap₂ (λ a b. a && b) (each n (ap (λ b. b || has_name names n) (itself n))) (all_each test names (λ name here. each name (go (pointwise nat_eq name n) here)))
  where
    go : (b : Bool) {c : Bool} → c ≡ true → (b || c) ≡ true
    go true e = refl
    go false e = e

all_at : (test : Text → Bool) (names : List Text) (name : Text) → list_all test names ≡ true → has_name names name ≡ true → test name ≡ true
all_at test [] name all here = absurd (let wrong : false ≡ true = here in cc)
all_at test (n ∷ names) name all here = go (pointwise nat_eq name n) refl (all_at test names name (and_parts (test n) (list_all test names) all).1)
  where
    go : (b : Bool) → pointwise nat_eq name n ≡ b → (has_name names name ≡ true → test name ≡ true) → test name ≡ true
    go true e rest = ap test (same_name name n e) ∙ (and_parts (test n) (list_all test names) all).0
    go false e rest = rest (rw e at here)

only_these : (options : List Text) (given : Arguments) → has_only_options option_names given ≡ true
    → ((name : Text) → has_name option_names name ≡ true → (values_of name given ≡ [] → ⊥) → has_name options name ≡ true) → has_only_options options given ≡ true
only_these options [] all each = refl
only_these options (CommandWord word ∷ given) all each = only_these options given all each
only_these options (Setting name value ∷ given) all each =
    ap₂ (λ a b. a && b)
    (each name here (λ none. let wrong : value ∷ values_of name given ≡ [] = rw (itself name) at none in cc))
    (only_these options given (and_parts (has_name option_names name) (has_only_options option_names given) all).1 (λ other there some. each other there (λ none. some (fewer other (bytes_eq name other) refl none))))
  where
    here : has_name option_names name ≡ true
    here = (and_parts (has_name option_names name) (has_only_options option_names given) all).0

    fewer : (other : Text) (b : Bool) → bytes_eq name other ≡ b → values_of other (Setting name value ∷ given) ≡ [] → values_of other given ≡ []
    fewer other true e none = absurd (let wrong : value ∷ values_of other given ≡ [] = rw e at none in cc)
    fewer other false e none = rw e at none

only_is : (options : List Text) (given : Arguments) → fits option_names [] given ≡ true → has_only_options options given ≡ has_only options (rows_for given)
only_is options given fit = go (has_only_options options given) (has_only options (rows_for given)) refl refl
  where
    passing : Text → Bool
    passing name = not (is_some (first_of name (rows_for given))) || has_name options name

    values : (name : Text) → has_name option_names name ≡ true → values_of name given ≡ option_to_list (first_of name (rows_for given))
    values name here = option_once option_names name refl here [] given fit

    test : (o : Option Text) (b : Bool) → (not (is_some o) || b) ≡ true → (option_to_list o ≡ [] → ⊥) → b ≡ true
    test (Some v) b e some = e
    test None b e some = absurd (some refl)

    passes : (o : Option Text) (b : Bool) → (b ≡ false → option_to_list o ≡ []) → (not (is_some o) || b) ≡ true
    passes None b none = refl
    passes (Some v) true none = refl
    passes (Some v) false none = absurd (let wrong : v ∷ [] ≡ [] = none refl in cc)

    go : (a b : Bool) → has_only_options options given ≡ a → has_only options (rows_for given) ≡ b → a ≡ b
    go true true d e = refl
    go false false d e = refl
    go true false d e = sym (all_each passing option_names (λ name here. passes (first_of name (rows_for given)) (has_name options name) (λ none. sym (values name here) ∙ not_given options name given d none))) ∙ e
    go false true d e = sym d ∙ only_these options given (options_declared option_names [] given fit)
        (λ name here some. test (first_of name (rows_for given)) (has_name options name) (all_at passing option_names name e here) (λ none. some (values name here ∙ none)))

-- the job of the arguments, by the rows of those that join
asked_is : (given : Arguments) → fits option_names [] given ≡ true → (o : Option (OptionsFor Job)) → IfSome o (λ options. IsLawful options Keeps) → job_asked given o ≡ asked_by o (rows_for given)
asked_is given fit None lawful = refl
asked_is given fit (Some options) lawful =
    ap₂ (λ b j. cond b j None) (only_is options.names given fit)
    (lawful.same _ _ (λ name here. option_once option_names name refl here [] given fit))

-- the options that the arguments' word names
abbrev named : Arguments → Option (OptionsFor Job)
named given = option_and_then options_of (only_word (command_words given))

fit_job : (given : Arguments) → fits option_names [] given ≡ true → job_asked given (named given) ≡ matched_job (rows_for given)
fit_job given fit =
    ap (job_asked given) (ap (option_and_then options_of) (ap only_word (command_once option_names refl [] given fit) ∙ only (first_of (codes "command") (rows_for given))))
    ∙ asked_is given fit _ (lawful (first_of (codes "command") (rows_for given)))
  where
    only : (o : Option Text) → only_word (option_to_list o) ≡ o
    only None = refl
    only (Some word) = refl

    lawful : (o : Option Text) → IfSome (option_and_then options_of o) (λ options. IsLawful options Keeps)
    lawful None = tt
    lawful (Some word) = options_lawful word

-- arguments that don't join ask for no job
no_fit_job : (given : Arguments) → fits option_names [] given ≡ false → job_asked given (named given) ≡ None
no_fit_job given none = go (job_asked given (named given)) refl
  where
    go : (o : Option Job) → job_asked given (named given) ≡ o → o ≡ None
    go None e = refl
    go (Some job) e = absurd (let wrong : false ≡ true = sym none ∙ asks_fits given job (asks given job e) in cc)

-- the same of the words' arguments and their matches by `clap`
joined_job : (given : Arguments) → job_asked given (named given) ≡ option_and_then matched_job (option_map rows_for (joined option_names [] given))
joined_job given = go (fits option_names [] given) refl
  where
    go : (b : Bool) → fits option_names [] given ≡ b → job_asked given (named given) ≡ option_and_then matched_job (option_map rows_for (cond (fits option_names [] given) (Some given) None))
    go true e = rw e (fit_job given e)
    go false e = rw e (no_fit_job given e)

whole_job : (words : List (List ℕ)) → job_of words ≡ option_and_then matched_job (rows_with option_names [] (whole words))
whole_job words = go (whole words) refl (whole-given words) (has_hyphen (arguments_of words)) refl
  where
    go : (o : Option Arguments) → whole words ≡ o → IfSome o (λ all. all ≡ arguments_of words) → (b : Bool) → has_hyphen (arguments_of words) ≡ b
        → job_of words ≡ option_and_then matched_job (rows_with option_names [] o)
    go (Some all) e same b h = subst (λ given. job_of words ≡ option_and_then matched_job (option_map rows_for (joined option_names [] given))) (sym same) (joined_job (arguments_of words))
    go None e same true h = hyphen_no_job words h
    go None e same false h = absurd (let wrong : None ≡ Some (arguments_of words) = sym e ∙ no_hyphen-whole words h in cc)

-- words without one dash have the job of `clap`'s matches, after the program's name
pub matched_job_is : (first : Text) (words : List Text) → list_any has_one_dash words ≡ false → job_of words ≡ option_and_then matched_job (clap_rows (first ∷ words))
matched_job_is first words two = whole_job words ∙ ap (option_and_then matched_job) (sym (clap_answers first words two))
