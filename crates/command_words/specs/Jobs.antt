-- The jobs: which one the words of the command line ask for.
use Rattle.std.specs.Prelude.{ℕ, ◌-◌, ◌^◌, ℤ, nat_eq, if◌then◌else◌, List, [], ◌∷◌, ◌++◌, find, codes, Option, Some, None, option_and_then, option_map}
use lib.Pointwise.{pointwise}
use Rattle.sig_base.specs.declared.limits.TheConstants.{STOP_MAX, EVENTS_MAX, RUNS_MAX}
use Rattle.command_words.specs.declared.job.Job.{Job}
use Rattle.command_words.specs.declared.job.Job.TheVariants as jobs
use Rattle.command_words.specs.declared.run_options.TheConstants.{ROOM_MAX, ROOM_USUAL}
use Rattle.command_words.specs.declared.trial_options.TheConstants.{VERTICES_MADE_MAX}
use Rattle.command_words.specs.Arguments.{PlainArgument, arguments_of, command_words, values_of, has_only_options}
use Rattle.command_words.specs.ArgumentValues.{number_within, starting_values, needed, besides}

-- ---- options, and what they give

-- the values that the option of each name is given
abbrev pub Values : Type 0
Values = List ℕ → List (List ℕ)

-- the names of some options, and what their values give, if anything
pub record OptionsFor (A : Type 0) : Type 0 where
  pub names : List (List ℕ)
  pub gives : Values → Option A

-- what is given without any option
abbrev pub no_options : {A : Type 0} → A → OptionsFor A
no_options a = record { names = []; gives = λ values. Some a }

infixl 40 ◌⊛◌
-- the value of a function that some options give, at what others give
abbrev pub ◌⊛◌ : {A B : Type 0} → OptionsFor (A → B) → OptionsFor A → OptionsFor B
f ⊛ a = record { names = f.names ++ a.names; gives = λ values. option_and_then (λ g. option_map g (a.gives values)) (f.gives values) }

-- a number that has to be given, from the lowest to the highest
abbrev pub number_option : List ℕ → ℕ → ℕ → OptionsFor ℕ
number_option name lowest highest =
    record { names = name ∷ []; gives = λ values. needed (number_within lowest highest) (values name) }

-- what may be given, and is usual else
abbrev pub usual_option : {A : Type 0} → List ℕ → A → (List ℕ → Option A) → OptionsFor A
usual_option name usual read = record { names = name ∷ []; gives = λ values. besides usual read (values name) }

-- ---- the options of the commands

-- the stop time
abbrev pub until_option : OptionsFor ℕ
until_option = number_option (codes "until") 0 STOP_MAX

-- the seed
abbrev pub seed_option : OptionsFor ℕ
seed_option = number_option (codes "seed") 0 (2 ^ 64 - 1)

-- the event budget
abbrev pub events_option : OptionsFor ℕ
events_option = number_option (codes "events") 1 EVENTS_MAX

-- how many runs there are
abbrev pub runs_option : OptionsFor ℕ
runs_option = number_option (codes "runs") 1 RUNS_MAX

-- how many vertices a made model has
abbrev pub vertices_option : OptionsFor ℕ
vertices_option = number_option (codes "vertices") 1 VERTICES_MADE_MAX

-- the starting values of a run
abbrev pub start_option : OptionsFor (List ℤ)
start_option = usual_option (codes "start") [] starting_values

-- how far the seed of each run is from that of the run before
abbrev pub stride_option : OptionsFor ℕ
stride_option = usual_option (codes "stride") 1 (number_within 1 (2 ^ 64 - 1))

-- the pending events for which a run has room
abbrev pub room_option : OptionsFor ℕ
room_option = usual_option (codes "room") ROOM_USUAL (number_within 0 ROOM_MAX)

-- ---- the commands

-- each command: its word, and its options, which give its job
abbrev pub commands : List (List ℕ × OptionsFor Job)
commands =
    (codes "check", no_options jobs.Check)
    ∷ (codes "print", no_options jobs.Print)
    ∷ (codes "reduce", no_options jobs.Reduce)
    ∷ (codes "certify", no_options jobs.Certify)
    ∷ (codes "uses", no_options jobs.Uses)
    ∷ (codes "conflicts", no_options jobs.Conflicts)
    ∷ (codes "fuse", no_options jobs.Fuse)
    ∷ (codes "narrow", no_options jobs.Narrow)
    ∷ (codes "describe", no_options jobs.Describe)
    ∷ (codes "run", no_options jobs.Run ⊛ until_option ⊛ seed_option ⊛ events_option ⊛ start_option ⊛ room_option)
    ∷ (codes "replicate", no_options jobs.Replicate ⊛ until_option ⊛ seed_option ⊛ events_option ⊛ runs_option ⊛ start_option ⊛ stride_option)
    ∷ (codes "compare", no_options jobs.Compare ⊛ until_option ⊛ seed_option ⊛ events_option ⊛ start_option ⊛ runs_option)
    ∷ (codes "save", no_options jobs.Save ⊛ until_option ⊛ seed_option ⊛ events_option ⊛ start_option)
    ∷ (codes "resume", no_options jobs.Resume ⊛ until_option ⊛ events_option ⊛ room_option)
    ∷ (codes "trial", no_options jobs.Trial ⊛ seed_option ⊛ vertices_option ⊛ until_option ⊛ events_option)
    ∷ []

-- the options of the command that a word names
abbrev pub options_of : List ℕ → Option (OptionsFor Job)
options_of word = option_map (λ command. command.1) (find (λ command. pointwise nat_eq word command.0) commands)

-- the one word, where there is one
abbrev pub only_word : List (List ℕ) → Option (List ℕ)
only_word (word ∷ []) = Some word
only_word words = None

-- the job that a command's options give, where no other option is given
abbrev pub job_asked : List PlainArgument → Option (OptionsFor Job) → Option Job
job_asked given None = None
job_asked given (Some options) =
    if has_only_options options.names given then options.gives (λ name. values_of name given) else None

-- the job of the words, if they are one
abbrev pub job_of : List (List ℕ) → Option Job
job_of words =
    let given = arguments_of words in job_asked given (option_and_then options_of (only_word (command_words given)))
