-- `clap` takes the words exactly where what they give joins to a command and options, and its matches are their rows.
use Rattle.std.proofs.Common.{◌≡◌, ◌∙◌, ◌&&◌, ◌++◌, ℕ, Bool, true, false, cond, not, bytes_eq, refl, sym, ap, ap₂, List, [], ◌∷◌, Option, Some, None, codes, map, fold, drop, option_map, option_and_then, option_to_list, append-nil, append_assoc}
use Rattle.std.specs.Prelude.{IfSome}
use Rattle.std.specs.List.{list_any}
use Rattle.std.proofs.lemmas.Bool.{or_parts}
use Rattle.std.proofs.lemmas.Cmp.{nat_list_eq_equiv}
use Rattle.std.proofs.Math.Bool.{or-false}
use Rattle.clap.specs.Lexer.{long_of, name_and_value}
use Rattle.clap.specs.Walk.{Held, Row, Text, Walk, Waiting, idle, option, pushed, settled, used, with_default}
use Rattle.clap.specs.Kinds.{Kinds, or_else}
use Rattle.clap.specs.Faults.{check_fault, defaults_fault, use_fault}
use Rattle.command_words.specs.Arguments.{PlainArgument, CommandWord, Setting, NameAlone, form_of, is_value}
use Rattle.command_words.proofs.Spelling.{Spelling, dashes, named, plain, one_dash, spelling, cut-is, form_cut, plain-is}
use Rattle.command_words.proofs.RulesByName.{built_option, built_rules, has_name, apart, by_id}
use Rattle.command_words.proofs.JoinedArguments.{Arguments, fits, has_command, is_given, is_declared, joined, row_more, rows_for, rows_more, command_more}
use Rattle.command_words.proofs.SettledArguments.{again, held_for, holding, settle, Settling, joins, clashes, settling, use_is, used_is}
use Rattle.command_words.proofs.ClapTurns.{GoesToCommand, awaiting, built_shape, walk_between, rows_of_rest, turn_attached, turn_command, turn_dashes, turn_named, turn_second, turn_undeclared, turn_value}
use Rattle.command_words.specs.Inner.ClapCommand.{has_one_dash, unless}
use Rattle.command_words.proofs.ClapEnd.{ends}
use Rattle.command_words.proofs.WholeArguments.{whole, whole_attached, whole_dashes, whole_last_name, whole_named, whole_other}

-- the place of the next word that is to be the command
abbrev place : Arguments → ℕ
place given = cond (has_command given) 2 1

-- the walk after these arguments, of which the last may be pending
abbrev pub walk_after : Arguments → Option PlainArgument → Bool → Walk
walk_after given pending is_after_dashes = walk_between (held_for given pending) idle (place (given ++ option_to_list pending)) is_after_dashes

-- the rows of the arguments, with more of them, where these may join
abbrev pub rows_with : List (List ℕ) → Arguments → Option Arguments → Option (List Row)
rows_with names all more = option_and_then (λ given. option_map rows_for (joined names all given)) more

abbrev pub rows_after : List (List ℕ) → Option Arguments → Option Arguments → Option (List Row)
rows_after names None more = None
rows_after names (Some all) more = rows_with names all more

abbrev add : PlainArgument → Option Arguments → Option Arguments
add x = option_map (λ given. x ∷ given)

one_joins : (names : List (List ℕ)) (all : Arguments) (x : PlainArgument) (more : Option Arguments) → is_declared names x ≡ true → is_given all x ≡ false
    → rows_with names all (add x more) ≡ rows_with names (all ++ x ∷ []) more
one_joins names all x None here free = refl
one_joins names all x (Some more) here free = rw (here, free, append_assoc all (x ∷ []) more) refl

given_again : (names : List (List ℕ)) (all : Arguments) (x : PlainArgument) (more : Option Arguments) → is_given all x ≡ true → rows_with names all (add x more) ≡ None
given_again names all x None again = refl
given_again names all x (Some more) again = go (is_declared names x)
  where
    go : (b : Bool) → option_map rows_for (cond ((b && not (is_given all x)) && fits names (all ++ x ∷ []) more) (Some (all ++ x ∷ more)) None) ≡ None
    go true = rw again refl
    go false = refl

undeclared : (names : List (List ℕ)) (all : Arguments) (x : PlainArgument) (more : Option Arguments) → is_declared names x ≡ false → rows_with names all (add x more) ≡ None
undeclared names all x None none = refl
undeclared names all x (Some more) none = rw none refl

-- ---- the end

abbrev last_by : List (List ℕ) → Kinds → Held → Option (List Row)
last_by names fault held = unless (or_else fault (or_else (defaults_fault held.rows (built_rules names)) (check_fault (built_shape names) (fold with_default held.rows (built_rules names)) false)))
    (Some (fold with_default held.rows (built_rules names)))

last : (names : List (List ℕ)) (given : Arguments) (pending : Option PlainArgument) (is_after_dashes : Bool) → Settling names given pending
    → rows_of_rest names (walk_after given pending is_after_dashes) [] ≡ rows_after names (settle given pending) (Some [])
last names given pending is_after_dashes (joins all is more fault held) =
    ap₂ (last_by names) fault held ∙ ends names all idle 1 is_after_dashes ∙ go (has_command all) ∙ ap (λ s. rows_after names s (Some [])) (sym is)
  where
    go : (b : Bool) → cond b (Some (rows_for all)) None ≡ option_map rows_for (cond b (Some (all ++ [])) None)
    go true = rw (append-nil all) refl
    go false = refl
last names given pending is_after_dashes (clashes k ks is fault) =
    ap (λ f. last_by names f (settled (built_rules names) (held_for given pending))) fault ∙ ap (λ s. rows_after names s (Some [])) (sym is)

-- ---- a word that goes to the command

settle_joins : (names : List (List ℕ)) (all : Arguments) (x : PlainArgument) (more : Option Arguments) → is_declared names x ≡ true
    → rows_after names (settle all (Some x)) more ≡ rows_with names all (add x more)
settle_joins names all x more here = go (is_given all x) refl
  where
    go : (b : Bool) → is_given all x ≡ b → rows_after names (settle all (Some x)) more ≡ rows_with names all (add x more)
    go true e = rw e (sym (given_again names all x more e))
    go false e = rw e (sym (one_joins names all x more here e))

abbrev command_by : List (List ℕ) → Bool → Text → List Text → Kinds → Held → Option (List Row)
command_by names is_after_dashes word words fault held = unless fault (rows_of_rest names (walk_between (pushed (codes "command") word held) idle 2 is_after_dashes) words)

command_turn : (names : List (List ℕ)) (given : Arguments) (pending : Option PlainArgument) (is_after_dashes : Bool) (word : Text) (words : List Text) (more : Option Arguments)
    → GoesToCommand idle is_after_dashes word → Settling names given pending
    → ((all : Arguments) → rows_of_rest names (walk_after all (Some (CommandWord word)) is_after_dashes) words ≡ rows_after names (settle all (Some (CommandWord word))) more)
    → rows_of_rest names (walk_after given pending is_after_dashes) (word ∷ words) ≡ rows_after names (settle given pending) (add (CommandWord word) more)
command_turn names given pending is_after_dashes word words more goes (clashes k ks is fault) rest =
    go (has_command (given ++ option_to_list pending)) ∙ ap (λ s. rows_after names s (add (CommandWord word) more)) (sym is)
  where
    go : (b : Bool) → rows_of_rest names (walk_between (held_for given pending) idle (cond b 2 1) is_after_dashes) (word ∷ words) ≡ None
    go true = turn_second names (held_for given pending) idle is_after_dashes word words goes
    go false = turn_command names (held_for given pending) idle is_after_dashes word words goes
        ∙ ap (λ f. command_by names is_after_dashes word words f (settled (built_rules names) (held_for given pending))) fault
command_turn names given pending is_after_dashes word words more goes (joins all is all_is fault held) rest =
    ap (λ a. rows_of_rest names (walk_between (held_for given pending) idle (place a) is_after_dashes) (word ∷ words)) (sym all_is)
    ∙ go (has_command all) refl ∙ ap (λ s. rows_after names s (add (CommandWord word) more)) (sym is)
  where
    go : (b : Bool) → has_command all ≡ b → rows_of_rest names (walk_between (held_for given pending) idle (cond b 2 1) is_after_dashes) (word ∷ words) ≡ rows_with names all (add (CommandWord word) more)
    go true e = turn_second names (held_for given pending) idle is_after_dashes word words goes ∙ sym (given_again names all (CommandWord word) more e)
    go false e =
        turn_command names (held_for given pending) idle is_after_dashes word words goes
        ∙ ap₂ (command_by names is_after_dashes word words) fault held
        ∙ ap (λ b. rows_of_rest names (walk_between (held_for all (Some (CommandWord word))) idle (cond b 2 1) is_after_dashes) words) (sym (command_more all word))
        ∙ rest all ∙ settle_joins names all (CommandWord word) more refl

-- the words after `--`
words_after_dashes : (names : List (List ℕ)) → has_name names (codes "command") ≡ false → (words : List Text) (given : Arguments) (pending : Option PlainArgument)
    → IfSome pending (λ x. is_declared names x ≡ true)
    → rows_of_rest names (walk_after given pending true) words ≡ rows_after names (settle given pending) (Some (map (λ w. CommandWord w) words))
words_after_dashes names none [] given pending here = last names given pending true (settling names none given pending here)
words_after_dashes names none (word ∷ words) given pending here =
    command_turn names given pending true word words (Some (map (λ w. CommandWord w) words)) tt (settling names none given pending here)
    (λ all. words_after_dashes names none words all (Some (CommandWord word)) refl)

-- ---- an option

-- the words are taken where what they give joins to what is given
abbrev Main : List (List ℕ) → List Text → Type 0
Main names words = (given : Arguments) (pending : Option PlainArgument) → list_any has_one_dash words ≡ false → IfSome pending (λ x. is_declared names x ≡ true)
    → rows_of_rest names (walk_after given pending false) words ≡ rows_after names (settle given pending) (whole words)

place_kept : (names : List (List ℕ)) (all : Arguments) (name value : List ℕ) → has_name names (codes "command") ≡ false → has_name names name ≡ true
    → has_command (all ++ Setting name value ∷ []) ≡ has_command all
place_kept names all name value none here =
    row_more (codes "command") all (Setting name value) false (nat_list_eq_equiv.symm name (codes "command") ∙ apart names name (codes "command") here none) ∙ or-false (has_command all)

abbrev attached_by : List (List ℕ) → Text → Text → ℕ → List Text → Kinds → Held → Option (List Row)
attached_by names name value position words fault held =
    unless fault (unless (use_fault false (built_option name) (value ∷ []) held.rows)
    (rows_of_rest names (walk_between (holding (used (built_option name) (value ∷ []) held.rows) None) idle position false) words))

attached_turn : (names : List (List ℕ)) → has_name names (codes "command") ≡ false → (given : Arguments) (pending : Option PlainArgument) (word name value : Text) (words : List Text)
    → bytes_eq word (codes "--") ≡ false → long_of word ≡ Some (name, Some value) → has_name names name ≡ true → Settling names given pending
    → list_any has_one_dash words ≡ false → Main names words
    → rows_of_rest names (walk_after given pending false) (word ∷ words) ≡ rows_after names (settle given pending) (add (Setting name value) (whole words))
attached_turn names none given pending word name value words other long here (clashes k ks is fault) two rest =
    turn_attached names (held_for given pending) idle (place (given ++ option_to_list pending)) word words name value other long here
    ∙ ap (λ f. attached_by names name value (place (given ++ option_to_list pending)) words f (settled (built_rules names) (held_for given pending))) fault
    ∙ ap (λ s. rows_after names s (add (Setting name value) (whole words))) (sym is)
attached_turn names none given pending word name value words other long here (joins all is all_is fault held) two rest =
    turn_attached names (held_for given pending) idle (place (given ++ option_to_list pending)) word words name value other long here
    ∙ ap₂ (attached_by names name value (place (given ++ option_to_list pending)) words) fault held
    ∙ ap (λ a. attached_by names name value (place a) words [] (held_for all None)) (sym all_is)
    ∙ go (is_given all (Setting name value)) refl ∙ ap (λ s. rows_after names s (add (Setting name value) (whole words))) (sym is)
  where
    go : (b : Bool) → is_given all (Setting name value) ≡ b → attached_by names name value (place all) words [] (held_for all None) ≡ rows_with names all (add (Setting name value) (whole words))
    go true e =
        ap (λ ks. unless ks (rows_of_rest names (walk_between (holding (used (built_option name) (value ∷ []) (rows_for all)) None) idle (place all) false) words)) (use_is (Setting name value) (rows_for all) ∙ ap again e)
        ∙ sym (given_again names all (Setting name value) (whole words) e)
    go false e =
        ap (λ ks. unless ks (rows_of_rest names (walk_between (holding (used (built_option name) (value ∷ []) (rows_for all)) None) idle (place all) false) words)) (use_is (Setting name value) (rows_for all) ∙ ap again e)
        ∙ ap₂ (λ rows b. rows_of_rest names (walk_between (holding rows None) idle (cond b 2 1) false) words) (used_is (Setting name value) (rows_for all) e ∙ sym (rows_more all (Setting name value))) (sym (place_kept names all name value none here))
        ∙ ap (λ a. rows_of_rest names (walk_between (held_for (all ++ Setting name value ∷ []) None) idle (place a) false) words) (sym (append-nil (all ++ Setting name value ∷ [])))
        ∙ rest (all ++ Setting name value ∷ []) None two tt ∙ sym (one_joins names all (Setting name value) (whole words) here e)

-- an option that waits after the last `--` gets no value
waits_after_dashes : (names : List (List ℕ)) → has_name names (codes "command") ≡ false → (all : Arguments) (name : Text) → has_name names name ≡ true → (waiting : Waiting) (b : Bool) (words : List Text)
    → rows_of_rest names (walk_between (awaiting name (held_for all None)) waiting (cond b 2 1) true) words ≡ None
waits_after_dashes names none all name here waiting b [] = rw (by_id names name none here) refl
waits_after_dashes names none all name here waiting true (word ∷ words) = turn_second names (awaiting name (held_for all None)) waiting true word words tt
waits_after_dashes names none all name here waiting false (word ∷ words) =
    turn_command names (awaiting name (held_for all None)) waiting true word words tt ∙ rw (by_id names name none here) refl

-- what is left after a name
abbrev whole_after_name : Text → List Text → Option Arguments
whole_after_name name [] = None
whole_after_name name (next ∷ words) = cond (is_value next) (add (Setting name next) (whole words)) None

-- another name ends it
waits_named : (names : List (List ℕ)) → has_name names (codes "command") ≡ false → (all : Arguments) (name : Text) → has_name names name ≡ true → (word : Text) (words : List Text) (other : Text) (value : Option Text)
    → bytes_eq word (codes "--") ≡ false → long_of word ≡ Some (other, value)
    → rows_of_rest names (walk_between (awaiting name (held_for all None)) (option name) (place all) false) (word ∷ words) ≡ None
waits_named names none all name here word words other value two_more long = go (has_name names other) value refl long
  where
    go : (b : Bool) (value : Option Text) → has_name names other ≡ b → long_of word ≡ Some (other, value)
        → rows_of_rest names (walk_between (awaiting name (held_for all None)) (option name) (place all) false) (word ∷ words) ≡ None
    go false value e cut = turn_undeclared names (awaiting name (held_for all None)) (option name) (place all) word words other value two_more cut e
    go true None e cut = turn_named names (awaiting name (held_for all None)) (option name) (place all) word words other two_more cut e ∙ rw (by_id names name none here) refl
    go true (Some text) e cut = turn_attached names (awaiting name (held_for all None)) (option name) (place all) word words other text two_more cut e ∙ rw (by_id names name none here) refl

-- an option that waits takes the next word as its value, where it is one
waits : (names : List (List ℕ)) → has_name names (codes "command") ≡ false → (all : Arguments) (name : Text) → has_name names name ≡ true → (words : List Text)
    → list_any has_one_dash words ≡ false → Main names (drop 1 words)
    → rows_of_rest names (walk_between (awaiting name (held_for all None)) (option name) (place all) false) words ≡ rows_with names all (whole_after_name name words)
waits names none all name here [] two rest = rw (by_id names name none here) refl
waits names none all name here (next ∷ words) two rest = go (spelling next)
  where
    no_value : is_value next ≡ false → rows_with names all (cond (is_value next) (add (Setting name next) (whole words)) None) ≡ None
    no_value e = ap (λ b. rows_with names all (cond b (add (Setting name next) (whole words)) None)) e

    go : Spelling next → rows_of_rest names (walk_between (awaiting name (held_for all None)) (option name) (place all) false) (next ∷ words) ≡ rows_with names all (cond (is_value next) (add (Setting name next) (whole words)) None)
    go (dashes is) =
        turn_dashes names (awaiting name (held_for all None)) (option name) (place all) next words (ap (λ w. bytes_eq w (codes "--")) is)
        ∙ waits_after_dashes names none all name here (option name) (has_command all) words ∙ sym (no_value (ap is_value is))
    go (named c text is) =
        waits_named names none all name here next words (name_and_value (c ∷ text)).0 (name_and_value (c ∷ text)).1 (ap (λ w. bytes_eq w (codes "--")) is) (ap long_of is)
        ∙ sym (no_value (ap is_value is))
    go (plain value) =
        turn_value names (held_for all None) name (place all) next words none here (plain-is next value)
        ∙ ap (λ b. rows_of_rest names (walk_between (held_for all (Some (Setting name next))) idle (cond b 2 1) false) words) (sym (place_kept names all name next none here))
        ∙ rest all (Some (Setting name next)) (or_parts (has_one_dash next) (list_any has_one_dash words) two).1 here ∙ settle_joins names all (Setting name next) (whole words) here
        ∙ ap (λ b. rows_with names all (cond b (add (Setting name next) (whole words)) None)) (sym value)
    go (one_dash one) = absurd (let wrong : true ≡ false = sym one ∙ (or_parts (has_one_dash next) (list_any has_one_dash words) two).0 in cc)

abbrev named_by : List (List ℕ) → Text → ℕ → List Text → Kinds → Held → Option (List Row)
named_by names name position words fault held = unless fault (rows_of_rest names (walk_between (awaiting name held) (option name) position false) words)

named_turn : (names : List (List ℕ)) → has_name names (codes "command") ≡ false → (given : Arguments) (pending : Option PlainArgument) (word name : Text) (words : List Text)
    → bytes_eq word (codes "--") ≡ false → long_of word ≡ Some (name, None) → has_name names name ≡ true → Settling names given pending
    → list_any has_one_dash words ≡ false → Main names (drop 1 words)
    → rows_of_rest names (walk_after given pending false) (word ∷ words) ≡ rows_after names (settle given pending) (whole_after_name name words)
named_turn names none given pending word name words other long here (clashes k ks is fault) two rest =
    turn_named names (held_for given pending) idle (place (given ++ option_to_list pending)) word words name other long here
    ∙ ap (λ f. named_by names name (place (given ++ option_to_list pending)) words f (settled (built_rules names) (held_for given pending))) fault
    ∙ ap (λ s. rows_after names s (whole_after_name name words)) (sym is)
named_turn names none given pending word name words other long here (joins all is all_is fault held) two rest =
    turn_named names (held_for given pending) idle (place (given ++ option_to_list pending)) word words name other long here
    ∙ ap₂ (named_by names name (place (given ++ option_to_list pending)) words) fault held
    ∙ ap (λ a. named_by names name (place a) words [] (held_for all None)) (sym all_is)
    ∙ waits names none all name here words two rest ∙ ap (λ s. rows_after names s (whole_after_name name words)) (sym is)

-- ---- all words

-- a name that no option has
undeclared_turn : (names : List (List ℕ)) (given : Arguments) (pending : Option PlainArgument) (word name : Text) (value : Option Text) (words : List Text)
    → bytes_eq word (codes "--") ≡ false → long_of word ≡ Some (name, value) → has_name names name ≡ false
    → rows_of_rest names (walk_after given pending false) (word ∷ words) ≡ None
undeclared_turn names given pending word name value words other long none =
    turn_undeclared names (held_for given pending) idle (place (given ++ option_to_list pending)) word words name value other long none

-- which gives nothing either
undeclared_whole : (names : List (List ℕ)) (given : Arguments) (pending : Option PlainArgument) (name value : Text) (more : Option Arguments) → has_name names name ≡ false
    → rows_after names (settle given pending) (add (Setting name value) more) ≡ None
undeclared_whole names given pending name value more none = go (settle given pending)
  where
    go : (s : Option Arguments) → rows_after names s (add (Setting name value) more) ≡ None
    go None = refl
    go (Some all) = undeclared names all (Setting name value) more none

undeclared_before : (names : List (List ℕ)) (given : Arguments) (pending : Option PlainArgument) (name : Text) (words : List Text) → has_name names name ≡ false
    → rows_after names (settle given pending) (whole_after_name name words) ≡ None
undeclared_before names given pending name [] none = nothing (settle given pending)
  where
    nothing : (s : Option Arguments) → rows_after names s None ≡ None
    nothing None = refl
    nothing (Some all) = refl
undeclared_before names given pending name (next ∷ words) none = go (is_value next)
  where
    nothing : (s : Option Arguments) → rows_after names s None ≡ None
    nothing None = refl
    nothing (Some all) = refl

    go : (b : Bool) → rows_after names (settle given pending) (cond b (add (Setting name next) (whole words)) None) ≡ None
    go true = undeclared_whole names given pending name next (whole words) none
    go false = nothing (settle given pending)

whole_name : (word name : Text) (words : List Text) → form_of word ≡ NameAlone name → whole (word ∷ words) ≡ whole_after_name name words
whole_name word name [] form = whole_last_name word name form
whole_name word name (next ∷ words) form = whole_named word name next words form

long_turn : (names : List (List ℕ)) → has_name names (codes "command") ≡ false → (given : Arguments) (pending : Option PlainArgument) (word name : Text) (value : Option Text) (words : List Text)
    → bytes_eq word (codes "--") ≡ false → long_of word ≡ Some (name, value) → form_of word ≡ form_cut (name, value) → IfSome pending (λ x. is_declared names x ≡ true)
    → list_any has_one_dash words ≡ false → Main names words → Main names (drop 1 words)
    → rows_of_rest names (walk_after given pending false) (word ∷ words) ≡ rows_after names (settle given pending) (whole (word ∷ words))
long_turn names none given pending word name None words other long form pending_declared two rest later = go (has_name names name) refl ∙ ap (rows_after names (settle given pending)) (sym (whole_name word name words form))
  where
    go : (b : Bool) → has_name names name ≡ b → rows_of_rest names (walk_after given pending false) (word ∷ words) ≡ rows_after names (settle given pending) (whole_after_name name words)
    go true e = named_turn names none given pending word name words other long e (settling names none given pending pending_declared) two later
    go false e = undeclared_turn names given pending word name None words other long e ∙ sym (undeclared_before names given pending name words e)
long_turn names none given pending word name (Some value) words other long form pending_declared two rest later = go (has_name names name) refl ∙ ap (rows_after names (settle given pending)) (sym (whole_attached word name value words form))
  where
    go : (b : Bool) → has_name names name ≡ b → rows_of_rest names (walk_after given pending false) (word ∷ words) ≡ rows_after names (settle given pending) (add (Setting name value) (whole words))
    go true e = attached_turn names none given pending word name value words other long e (settling names none given pending pending_declared) two rest
    go false e = undeclared_turn names given pending word name (Some value) words other long e ∙ sym (undeclared_whole names given pending name value (whole words) e)

turn : (names : List (List ℕ)) → has_name names (codes "command") ≡ false → (word : Text) (words : List Text) → Main names words → Main names (drop 1 words) → Main names (word ∷ words)
turn names none word words rest later given pending two pending_declared = go (spelling word)
  where
    more : list_any has_one_dash words ≡ false
    more = (or_parts (has_one_dash word) (list_any has_one_dash words) two).1

    go : Spelling word → rows_of_rest names (walk_after given pending false) (word ∷ words) ≡ rows_after names (settle given pending) (whole (word ∷ words))
    go (dashes is) =
        turn_dashes names (held_for given pending) idle (place (given ++ option_to_list pending)) word words (ap (λ w. bytes_eq w (codes "--")) is)
        ∙ words_after_dashes names none words given pending pending_declared ∙ ap (rows_after names (settle given pending)) (sym (whole_dashes word words (ap form_of is)))
    go (named c text is) =
        long_turn names none given pending word (name_and_value (c ∷ text)).0 (name_and_value (c ∷ text)).1 words (ap (λ w. bytes_eq w (codes "--")) is) (ap long_of is)
        (ap form_of is ∙ cut-is (c ∷ text)) pending_declared more rest later
    go (plain value) =
        command_turn names given pending false word words (whole words) (plain-is word value) (settling names none given pending pending_declared)
        (λ all. rest all (Some (CommandWord word)) more refl) ∙ ap (rows_after names (settle given pending)) (sym (whole_other word words (plain-is word value).other))
    go (one_dash one) = absurd (let wrong : true ≡ false = sym one ∙ (or_parts (has_one_dash word) (list_any has_one_dash words) two).0 in cc)

both : (names : List (List ℕ)) → has_name names (codes "command") ≡ false → (words : List Text) → Main names words × Main names (drop 1 words)
both names none [] = (nothing_left, nothing_left)
  where
    nothing_left : Main names []
    nothing_left given pending two pending_declared = last names given pending false (settling names none given pending pending_declared)
both names none (word ∷ words) = (turn names none word words (both names none words).0 (both names none words).1, (both names none words).0)

-- the words are taken exactly where what they give joins, and the matches are its rows
pub takes_joined : (names : List (List ℕ)) → has_name names (codes "command") ≡ false → (words : List Text) → list_any has_one_dash words ≡ false
    → rows_of_rest names (walk_after [] None false) words ≡ rows_with names [] (whole words)
takes_joined names none words two = (both names none words).0 [] None two tt
