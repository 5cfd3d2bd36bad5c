-- How `clap` takes the end of the words.
use Rattle.std.proofs.Common.{◌≡◌, ◌∙◌, ◌&&◌, ◌||◌, ℕ, Bool, true, false, cond, not, bytes_eq, refl, ap, List, [], ◌∷◌, Some, None, codes, map, fold, find}
use Rattle.std.specs.List.{list_any}
use Rattle.std.specs.Option.{option_map_or}
use Rattle.clap.specs.Walk.{Row, Rule, Waiting, has_row, with_default}
use Rattle.clap.specs.Kinds.{Kinds, or_else}
use Rattle.clap.specs.Facts.{explicit_source}
use Rattle.clap.specs.Faults.{defaults_fault}
use Rattle.clap.specs.Takes.{is_given}
use Rattle.clap.specs.declared.error.kind.ErrorKind.TheVariants as kind
use Rattle.command_words.proofs.RulesByName.{built_word, built_option, built_rules}
use Rattle.command_words.proofs.JoinedArguments.{Arguments, rows_for, row_for, has_command}
use Rattle.command_words.proofs.SettledArguments.{held_for}
use Rattle.command_words.proofs.ClapTurns.{walk_between, rows_of_rest}
use Rattle.command_words.specs.Inner.ClapCommand.{unless}

-- no argument has a value that is usual
same_rows : (b : Bool) (rows : List Row) → cond b rows rows ≡ rows
same_rows true rows = refl
same_rows false rows = refl

no_fault : (b : Bool) (ks : Kinds) → cond (b || true) [] ks ≡ []
no_fault true ks = refl
no_fault false ks = refl

defaults_of_options : (names : List (List ℕ)) (rows : List Row) → fold with_default rows (map built_option names) ≡ rows
defaults_of_options [] rows = refl
defaults_of_options (n ∷ names) rows = ap (λ rs. fold with_default rs (map built_option names)) (same_rows (has_row n rows) rows) ∙ defaults_of_options names rows

defaults_are : (names : List (List ℕ)) (rows : List Row) → fold with_default rows (built_rules names) ≡ rows
defaults_are names rows = ap (λ rs. fold with_default rs (map built_option names)) (same_rows (has_row (codes "command") rows) rows) ∙ defaults_of_options names rows

faults_of_options : (names : List (List ℕ)) (rows : List Row) → defaults_fault rows (map built_option names) ≡ []
unfolding defaults_fault
faults_of_options [] rows = refl
faults_of_options (n ∷ names) rows =
    ap (λ ks. or_else ks (defaults_fault (with_default rows (built_option n)) (map built_option names))) (no_fault (has_row n rows) _)
    ∙ faults_of_options names (with_default rows (built_option n))

faults_are : (names : List (List ℕ)) (rows : List Row) → defaults_fault rows (built_rules names) ≡ []
unfolding defaults_fault
faults_are names rows =
    ap (λ ks. or_else ks (defaults_fault (with_default rows built_word) (map built_option names))) (no_fault (has_row (codes "command") rows) _)
    ∙ faults_of_options names (with_default rows built_word)

-- only the command has to be there
none_required : (names : List (List ℕ)) (rows : List Row) → list_any (λ (a : Rule). a.required && not (is_given a.id rows)) (map built_option names) ≡ false
none_required [] rows = refl
none_required (n ∷ names) rows = none_required names rows

command_given : (given : Arguments) → is_given (codes "command") (rows_for given) ≡ has_command given
command_given [] = refl
command_given (x ∷ given) = go (bytes_eq (row_for x).id (codes "command")) (command_given given)
  where
    go : (b : Bool) → is_given (codes "command") (rows_for given) ≡ has_command given
        → option_map_or (λ (r : Row). explicit_source r.source) (cond b (Some (row_for x)) (find (λ (r : Row). bytes_eq r.id (codes "command")) (rows_for given))) false ≡ (b || has_command given)
    go true rest = refl
    go false rest = rest

-- the words end with the command among what is given
pub ends : (names : List (List ℕ)) (given : Arguments) (waiting : Waiting) (position : ℕ) (is_after_dashes : Bool)
    → rows_of_rest names (walk_between (held_for given None) waiting position is_after_dashes) [] ≡ cond (has_command given) (Some (rows_for given)) None
ends names given waiting position is_after_dashes =
    rw (faults_are names (rows_for given), none_required names (fold with_default (rows_for given) (built_rules names)), defaults_are names (rows_for given), command_given given)
    (go (has_command given))
  where
    go : (b : Bool) → unless (cond (not b || false) (kind.MissingRequiredArgument ∷ []) []) (Some (rows_for given)) ≡ cond b (Some (rows_for given)) None
    go true = refl
    go false = refl
