-- The job of `clap`'s matches, as the code reads it off their rows.
use Rattle.std.specs.Prelude.{Bool, not, ◌||◌, nat_eq, if◌then◌else◌, List, codes, Option, Some, None, is_some, option_and_then}
use Rattle.std.specs.List.{list_all, list_any}
use Rattle.std.specs.Option.{option_to_list}
use lib.Pointwise.{pointwise}
use Rattle.clap.specs.Words.{Row, Text, first_of}
use Rattle.command_words.specs.declared.job.Job.{Job}
use Rattle.command_words.specs.Jobs.{OptionsFor, options_of}
use Rattle.command_words.specs.Inner.ClapCommand.{option_names}

-- the values of an option
abbrev pub matched_values : List Row → Text → List Text
matched_values rows name = option_to_list (first_of name rows)

-- the option isn't given, or is one of these
abbrev pub may_be_given : List Text → List Row → Text → Bool
may_be_given options rows name = not (is_some (first_of name rows)) || list_any (λ n. pointwise nat_eq name n) options

-- no option is given but these
abbrev pub has_only : List Text → List Row → Bool
has_only options rows = list_all (may_be_given options rows) option_names

-- the job that a command's options give, where no other option is given
abbrev pub asked_by : Option (OptionsFor Job) → List Row → Option Job
asked_by None rows = None
asked_by (Some options) rows = if has_only options.names rows then options.gives (matched_values rows) else None

-- the job of the matches, if they are one
abbrev pub matched_job : List Row → Option Job
matched_job rows = asked_by (option_and_then options_of (first_of (codes "command") rows)) rows
