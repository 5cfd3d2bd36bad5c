-- How `clap` takes one word more, and the end of the words.
use Rattle.std.proofs.Common.{◌≡◌, ◌∙◌, ℕ, Bool, true, false, bytes_eq, refl, List, [], ◌∷◌, Option, Some, None, codes}
use Rattle.std.proofs.Math.Bool.{and-false}
use Rattle.clap.specs.Lexer.{long_of}
use Rattle.clap.specs.Walk.{Held, Row, Text, Walk, Waiting, finished, idle, is_pending, option, positional, pushed, reacted, settled, subcommand_met, walked}
use Rattle.clap.specs.Kinds.{Kinds, or_else}
use Rattle.clap.specs.Faults.{check_fault, defaults_fault, settle_fault, turn_fault, use_fault}
use Rattle.clap.specs.Simple.{Shape, built}
use Rattle.command_words.specs.Inner.ClapCommand.{command_line, unless}
use Rattle.command_words.proofs.RulesByName.{built_word, built_option, built_rules, has_name, by_id, by_long, itself, second_place}
use Rattle.command_words.proofs.Spelling.{IsPlain}

-- the answer, unless there is one fault or the next
pub unless_first : {X : Type 0} (first next : Kinds) (answer : Option X) → unless (or_else first next) answer ≡ unless first (unless next answer)
unless_first [] next answer = refl
unless_first (k ∷ ks) next answer = refl

-- the command line with options of these names, as `clap` completes it
abbrev pub built_shape : List (List ℕ) → Shape
built_shape names = record (built (command_line [])).top { rules = built_rules names }

-- the error at the end of the words
abbrev pub last_fault : List (List ℕ) → Held → Kinds
last_fault names held = or_else (settle_fault (built_rules names) false held)
    (or_else (defaults_fault (settled (built_rules names) held).rows (built_rules names)) (check_fault (built_shape names) (finished (built_rules names) held) false))

-- the matches of the words that are left, where `clap` takes them
abbrev pub rows_of_rest : List (List ℕ) → Walk → List Text → Option (List Row)
rows_of_rest names walk [] = unless (last_fault names walk.held) (Some (finished (built_rules names) walk.held))
rows_of_rest names walk (word ∷ words) = unless (turn_fault (built_shape names) [] walk word) (rows_of_rest names (walked (built_rules names) [] walk word) words)

-- the walk between two words
abbrev pub walk_between : Held → Waiting → ℕ → Bool → Walk
walk_between held waiting position is_after_dashes = record { held = held; waiting = waiting; position = position; is_trailing = is_after_dashes; stopped = None }

-- the option of this name waits for its value
abbrev pub awaiting : Text → Held → Held
awaiting name held = record held { pending = Some (name, []) }

-- there are no subcommands
none_met : (waiting : Waiting) (word : Text) → subcommand_met [] waiting word ≡ None
none_met idle word = refl
none_met (option name) word = refl
none_met positional word = refl

-- `--`
pub turn_dashes : (names : List (List ℕ)) (held : Held) (waiting : Waiting) (position : ℕ) (word : Text) (words : List Text) → bytes_eq word (codes "--") ≡ true
    → rows_of_rest names (walk_between held waiting position false) (word ∷ words) ≡ rows_of_rest names (walk_between held waiting position true) words
unfolding walked
turn_dashes names held waiting position word words dashes = rw (none_met waiting word, dashes) refl

-- a name that no option has
pub turn_undeclared : (names : List (List ℕ)) (held : Held) (waiting : Waiting) (position : ℕ) (word : Text) (words : List Text) (name : Text) (value : Option Text)
    → bytes_eq word (codes "--") ≡ false → long_of word ≡ Some (name, value) → has_name names name ≡ false
    → rows_of_rest names (walk_between held waiting position false) (word ∷ words) ≡ None
unfolding walked
turn_undeclared names held waiting position word words name value other long here = rw (none_met waiting word, other, long, by_long names name, here) refl

-- an option with its value in one word
pub turn_attached : (names : List (List ℕ)) (held : Held) (waiting : Waiting) (position : ℕ) (word : Text) (words : List Text) (name value : Text)
    → bytes_eq word (codes "--") ≡ false → long_of word ≡ Some (name, Some value) → has_name names name ≡ true
    → rows_of_rest names (walk_between held waiting position false) (word ∷ words)
    ≡ unless (settle_fault (built_rules names) false held) (unless (use_fault false (built_option name) (value ∷ []) (settled (built_rules names) held).rows)
    (rows_of_rest names (walk_between (reacted (built_rules names) (built_option name) (value ∷ []) held) idle position false) words))
unfolding walked
turn_attached names held waiting position word words name value other long here =
    rw (none_met waiting word, other, long, by_long names name, here)
    (unless_first (or_else (settle_fault (built_rules names) false held) (use_fault false (built_option name) (value ∷ []) (settled (built_rules names) held).rows)) [] _
    ∙ unless_first (settle_fault (built_rules names) false held) (use_fault false (built_option name) (value ∷ []) (settled (built_rules names) held).rows) _)

-- an option that waits for its value
pub turn_named : (names : List (List ℕ)) (held : Held) (waiting : Waiting) (position : ℕ) (word : Text) (words : List Text) (name : Text)
    → bytes_eq word (codes "--") ≡ false → long_of word ≡ Some (name, None) → has_name names name ≡ true
    → rows_of_rest names (walk_between held waiting position false) (word ∷ words)
    ≡ unless (settle_fault (built_rules names) false held) (rows_of_rest names (walk_between (awaiting name (settled (built_rules names) held)) (option name) position false) words)
unfolding walked
turn_named names held waiting position word words name other long here =
    rw (none_met waiting word, other, long, by_long names name, here) (unless_first (settle_fault (built_rules names) false held) [] _)

-- the value of the option that waits for it
pub turn_value : (names : List (List ℕ)) (held : Held) (name : Text) (position : ℕ) (word : Text) (words : List Text)
    → has_name names (codes "command") ≡ false → has_name names name ≡ true → IsPlain word
    → rows_of_rest names (walk_between (awaiting name held) (option name) position false) (word ∷ words)
    ≡ rows_of_rest names (walk_between (record held { pending = Some (name, word ∷ []) }) idle position false) words
unfolding walked
turn_value names held name position word words none here is_plain =
    rw (is_plain.no_dashes, is_plain.no_long, is_plain.no_short, by_id names name none here, itself name) refl

-- a word that goes to the command, after `--` or before it
abbrev pub GoesToCommand : Waiting → Bool → Text → Type 0
GoesToCommand waiting true word = Unit {0}
GoesToCommand idle false word = IsPlain word
GoesToCommand waiting false word = ⊥

-- the first of them
pub turn_command : (names : List (List ℕ)) (held : Held) (waiting : Waiting) (is_after_dashes : Bool) (word : Text) (words : List Text) → GoesToCommand waiting is_after_dashes word
    → rows_of_rest names (walk_between held waiting 1 is_after_dashes) (word ∷ words)
    ≡ unless (settle_fault (built_rules names) false held) (rows_of_rest names (walk_between (pushed (codes "command") word (settled (built_rules names) held)) idle 2 is_after_dashes) words)
unfolding walked
turn_command names held waiting true word words goes = rw (and-false (is_pending built_word held.pending)) refl
turn_command names held idle false word words is_plain = rw (is_plain.no_dashes, is_plain.no_long, is_plain.no_short, and-false (is_pending built_word held.pending)) refl
turn_command names held (option name) false word words goes = absurd goes
turn_command names held positional false word words goes = absurd goes

-- a second word
pub turn_second : (names : List (List ℕ)) (held : Held) (waiting : Waiting) (is_after_dashes : Bool) (word : Text) (words : List Text) → GoesToCommand waiting is_after_dashes word
    → rows_of_rest names (walk_between held waiting 2 is_after_dashes) (word ∷ words) ≡ None
unfolding walked
turn_second names held waiting true word words goes = rw (second_place names) refl
turn_second names held idle false word words is_plain = rw (is_plain.no_dashes, is_plain.no_long, is_plain.no_short, second_place names) refl
turn_second names held (option name) false word words goes = absurd goes
turn_second names held positional false word words goes = absurd goes
