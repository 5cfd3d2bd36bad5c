-- The command line as it is described to `clap`: one word, and options that take one text each; and what `clap` then answers.
use Rattle.std.specs.Prelude.{Bool, true, not, ◌&&◌, nat_eq, List, [], ◌∷◌, Option, Some, None, fold, codes}
use Rattle.std.specs.List.{starts_with}
use Rattle.clap.specs.Words.{App, Kinds, Row, Rule, Text, fault_of, found_of, matches_of, new_app, new_rule, rows_of, with_rule}
use Rattle.clap.specs.Simple.{on_top}
use Rattle.clap.specs.declared.parser.matches.ArgMatches.{ArgMatches}

-- the names of all options, of whichever command
abbrev pub option_names : List Text
option_names = codes "until" ∷ codes "seed" ∷ codes "events" ∷ codes "start" ∷ codes "room" ∷ codes "runs" ∷ codes "stride" ∷ codes "vertices" ∷ []

-- an option that takes one text
abbrev pub option : Text → Rule
option name = record (new_rule name) { long = Some name }

-- the one word
abbrev pub command_word : Rule
command_word = record (new_rule (codes "command")) { required = true }

-- the program, without help and version
abbrev pub program : App
program = on_top (λ s. record s { disable_help_flag = true; disable_version_flag = true }) (new_app (codes "sigma"))

-- the program with its word, and with options of these names
abbrev pub command_line : List Text → App
command_line names = fold (λ a name. with_rule a (option name)) (with_rule program command_word) names

-- the answer, unless there is a fault
abbrev pub unless : {X : Type 0} → Kinds → Option X → Option X
unless [] answer = answer
unless (k ∷ ks) answer = None

-- the rows of the matches, where `clap` takes the words after the program's name
abbrev pub clap_rows : List Text → Option (List Row)
clap_rows words = unless (fault_of (command_line option_names) words) (Some (matches_of (command_line option_names) words))

-- the word begins with one `-` and no more
abbrev pub has_one_dash : Text → Bool
has_one_dash word = starts_with nat_eq word (codes "-") && not (starts_with nat_eq word (codes "--"))

-- the rows of matches
abbrev pub rows_in : ArgMatches → List Row
rows_in matches = rows_of (found_of matches)
