-- What `clap` answers to the words: its fault, or its matches.
use Rattle.std.proofs.Common.{◌≡◌, ◌∙◌, ℕ, Bool, true, false, refl, sym, ap, ap₂, List, [], ◌∷◌, Option, Some, None, fold, is_some}
use Rattle.std.specs.List.{list_any}
use Rattle.clap.specs.Walk.{Row, Text, Walk, finished, nothing_held, stop_after, walk_from, walked}
use Rattle.clap.specs.Kinds.{Kinds}
use Rattle.clap.specs.Faults.{entered_fault, level_fault, walk_fault, is_simple_and_free}
use Rattle.clap.specs.Simple.{App, built, entered, matches_of}
use Rattle.clap.proofs.OnLiterals.{clap_on_literals}
use Rattle.command_words.specs.Inner.ClapCommand.{clap_rows, command_line, has_one_dash, option_names, unless}
use Rattle.command_words.proofs.RulesByName.{built_rules}
use Rattle.command_words.proofs.ClapTurns.{built_shape, last_fault, rows_of_rest, unless_first}
use Rattle.command_words.proofs.ClapTakes.{walk_after, rows_with, takes_joined}
use Rattle.command_words.proofs.WholeArguments.{whole}

-- the matches, where there is no fault
rows_of_rest-is : (names : List (List ℕ)) (words : List Text) (w : Walk)
    → rows_of_rest names w words ≡ unless (walk_fault (built_shape names) [] w words)
    (unless (last_fault names (fold (walked (built_rules names) []) w words).held) (Some (finished (built_rules names) (fold (walked (built_rules names) []) w words).held)))
unfolding walk_fault
rows_of_rest-is names [] w = refl
rows_of_rest-is names (word ∷ words) w = ap (unless _) (rows_of_rest-is names words (walked (built_rules names) [] w word)) ∙ sym (unless_first _ (walk_fault (built_shape names) [] (walked (built_rules names) [] w word) words) _)

-- no subcommand is entered
abbrev app : App
app = built (command_line option_names)

no_fault_below : (stop : Option (Text × List Text)) → entered_fault app stop ≡ []
no_fault_below None = refl
no_fault_below (Some p) = refl

none_entered : (stop : Option (Text × List Text)) → entered app stop ≡ None
none_entered None = refl
none_entered (Some p) = refl

pub clap_is_simple : is_simple_and_free (command_line option_names) ≡ true
unfolding clap_on_literals
clap_is_simple = refl

-- the words of the program, as `clap` reads them
abbrev last_by : List Text → Bool → Kinds → Kinds
last_by words has_subcommand below = level_fault (built_shape option_names) [] nothing_held words has_subcommand below

pub clap_answers : (first : Text) (words : List Text) → list_any has_one_dash words ≡ false
    → clap_rows (first ∷ words) ≡ rows_with option_names [] (whole words)
clap_answers first words two =
    ap₂ (λ h b. unless (last_by words h b) (Some (matches_of (command_line option_names) (first ∷ words))))
    (ap (λ (o : Option (Text × List Row)). is_some o) (none_entered (stop_after (built_rules option_names) [] words))) (no_fault_below (stop_after (built_rules option_names) [] words))
    ∙ unless_first (walk_fault (built_shape option_names) [] (walk_from nothing_held) words) _ _
    ∙ sym (rows_of_rest-is option_names words (walk_after [] None false)) ∙ takes_joined option_names refl words two
