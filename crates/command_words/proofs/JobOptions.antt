-- Arguments that ask for a job fit: its command takes each of their options, and none is given twice. And the job keeps its
-- limits, since the numbers of its options do.
use Rattle.std.proofs.Common.{◌≡◌, ◌∙◌, ◌&&◌, ◌||◌, ◌≤◌, ◌⊎◌, ◌++◌, ◌^◌, ◌-◌, ℕ, ℤ, Bool, true, false, cond, nat_eq, bytes_eq, inl, inr, refl, sym, ap, ap₂, subst, arith, List, [], ◌∷◌, Option, Some, None, find, length, codes, option_and_then, option_map}
use Rattle.std.specs.Prelude.{IfSome}
use Rattle.std.specs.List.{AllByRecursion}
use Rattle.std.proofs.lemmas.Bool.{and_parts, or_cases}
use Rattle.std.proofs.lemmas.List.Folds.{list_any-append}
use lib.Pointwise.{pointwise}
use Rattle.clap.specs.Walk.{Text}
use Rattle.sig_base.specs.declared.limits.TheConstants.{STOP_MAX, EVENTS_MAX, RUNS_MAX}
use Rattle.command_words.specs.declared.job.Job.{Job}
use Rattle.command_words.specs.declared.job.Job.TheVariants as jobs
use Rattle.command_words.specs.declared.run_options.TheConstants.{ROOM_MAX, ROOM_USUAL}
use Rattle.command_words.specs.declared.trial_options.TheConstants.{VERTICES_MADE_MAX}
use Rattle.command_words.specs.Arguments.{CommandWord, Setting, arguments_of, command_words, has_only_options, values_of}
use Rattle.command_words.specs.ArgumentValues.{besides, needed, starting_values}
use Rattle.command_words.specs.Jobs.{OptionsFor, Values, no_options, ◌⊛◌, commands, job_asked, job_of, number_option, only_word, options_of, usual_option}
use Rattle.command_words.specs.KeptLimits.{KeepsLimits}
use Rattle.command_words.specs.Readings.{reading_of}
use Rattle.command_words.specs.Inner.ClapCommand.{option_names}
use Rattle.command_words.proofs.RulesByName.{has_name, same_name}
use Rattle.command_words.proofs.JoinedArguments.{Arguments, fits}
use Rattle.command_words.proofs.FittingArguments.{fit-fits}
use Rattle.command_words.proofs.NumbersGiven.{IsFrom, besides_lies, needed_lies}

-- ---- names among others

-- each name among these is among those
abbrev Among : List Text → List Text → Type 0
Among options names = (name : Text) → has_name options name ≡ true → has_name names name ≡ true

alone : (other name : Text) → has_name (other ∷ []) name ≡ true → name ≡ other
alone other name here = go (pointwise nat_eq name other) refl here
  where
    go : (b : Bool) → pointwise nat_eq name other ≡ b → (b || false) ≡ true → name ≡ other
    go true e is = same_name name other e
    go false e is = absurd (cc is)

wider : (names options : List Text) (given : Arguments) → Among options names → has_only_options options given ≡ true → has_only_options names given ≡ true
wider names options [] among only = refl
wider names options (CommandWord word ∷ given) among only = wider names options given among only
wider names options (Setting name value ∷ given) among only =
    ap₂ (λ a b. a && b) (among name (and_parts (has_name options name) (has_only_options options given) only).0)
    (wider names options given among (and_parts (has_name options name) (has_only_options options given) only).1)

pub not_given : (options : List Text) (name : Text) (given : Arguments) → has_only_options options given ≡ true → has_name options name ≡ false → values_of name given ≡ []
not_given options name [] only none = refl
not_given options name (CommandWord word ∷ given) only none = not_given options name given only none
not_given options name (Setting other value ∷ given) only none =
    go (bytes_eq other name) refl (not_given options name given (and_parts (has_name options other) (has_only_options options given) only).1 none)
  where
    go : (b : Bool) → bytes_eq other name ≡ b → values_of name given ≡ [] → values_of name (Setting other value ∷ given) ≡ []
    go false e rest = rw e rest
    go true e rest = absurd (let wrong : true ≡ false = sym (and_parts (has_name options other) (has_only_options options given) only).0 ∙ ap (has_name options) (same_name other name e) ∙ none in cc)

-- ---- what is so of options

abbrev Once : List Text → Type 0
Once values = length values ≤ 1

-- the same values are given to each option that there is
abbrev pub SameValues : Values → Values → Type 0
SameValues v w = (name : Text) → has_name option_names name ≡ true → v name ≡ w name

-- There are such options; each is given once where they give something; what they give is seen of their values; and it is such.
pub record IsLawful {A : Type 0} (options : OptionsFor A) (IsSuch : A → Type 0) : Type 0 where
  pub are_declared : Among options.names option_names
  pub once : (values : Values) (a : A) → options.gives values ≡ Some a → (name : Text) → has_name options.names name ≡ true → Once (values name)
  pub same : (v w : Values) → SameValues v w → options.gives v ≡ options.gives w
  pub such : (values : Values) → IfSome (options.gives values) IsSuch

-- options of which this is so
abbrev LawfulOptions : (A : Type 0) → (A → Type 0) → Type 0
LawfulOptions A IsSuch = (options : OptionsFor A) × IsLawful options IsSuch

once_needed : {A : Type 0} (read : Text → Option A) (values : List Text) (a : A) → needed read values ≡ Some a → Once values
once_needed read [] a e = absurd (let wrong : None ≡ Some a = e in cc)
once_needed read (v ∷ []) a e = omega arith
once_needed read (v ∷ w ∷ values) a e = absurd (let wrong : None ≡ Some a = e in cc)

once_besides : {A : Type 0} (usual : A) (read : Text → Option A) (values : List Text) (a : A) → besides usual read values ≡ Some a → Once values
once_besides usual read [] a e = omega arith
once_besides usual read (v ∷ []) a e = omega arith
once_besides usual read (v ∷ w ∷ values) a e = absurd (let wrong : None ≡ Some a = e in cc)

lawful_number : (option : Text) (lowest highest : ℕ) → has_name option_names option ≡ true → LawfulOptions ℕ (IsFrom lowest highest)
lawful_number option lowest highest there = (
  number_option option lowest highest,
  record {
    are_declared = λ name here. subst (λ n. has_name option_names n ≡ true) (sym (alone option name here)) there;
    once = λ values n e name here. subst (λ n. Once (values n)) (sym (alone option name here)) (once_needed _ (values option) n e);
    same = λ v w e. ap (needed _) (e option there);
    such = λ values. needed_lies lowest highest (values option);
  },
)

lawful_usual : {A : Type 0} (option : Text) (usual : A) (read : Text → Option A) (IsSuch : A → Type 0) → has_name option_names option ≡ true
    → ((values : List Text) → IfSome (besides usual read values) IsSuch) → LawfulOptions A IsSuch
lawful_usual option usual read IsSuch there such = (
  usual_option option usual read,
  record {
    are_declared = λ name here. subst (λ n. has_name option_names n ≡ true) (sym (alone option name here)) there;
    once = λ values a e name here. subst (λ n. Once (values n)) (sym (alone option name here)) (once_besides usual read (values option) a e);
    same = λ v w e. ap (besides usual read) (e option there);
    such = λ values. such (values option);
  },
)

-- no option at all
lawful_without : {A : Type 0} (IsSuch : A → Type 0) (a : A) → IsSuch a → LawfulOptions A IsSuch
lawful_without IsSuch a such = (
  no_options a,
  record {
    are_declared = λ name here. absurd (cc here);
    once = λ values b e name here. absurd (cc here);
    same = λ v w e. refl;
    such = λ values. such;
  },
)

-- a value is there
abbrev IsThere : {A : Type 0} → Option A → Type 0
IsThere {A} o = (a : A) × (o ≡ Some a)

-- the value of a function, where both are there
abbrev function_value : {A B : Type 0} → Option (A → B) → Option A → Option B
function_value f a = option_and_then (λ g. option_map g a) f

both_there : {A B : Type 0} (f : Option (A → B)) (a : Option A) (b : B) → function_value f a ≡ Some b → IsThere f × IsThere a
both_there (Some f) (Some a) b e = ((f, refl), (a, refl))
both_there None a b e = absurd (let wrong : None ≡ Some b = e in cc)
both_there (Some f) None b e = absurd (let wrong : None ≡ Some b = e in cc)

both_such : {A B : Type 0} (IsSuch : B → Type 0) (IsPart : A → Type 0) (f : Option (A → B)) (a : Option A)
    → IfSome f (λ g. (x : A) → IsPart x → IsSuch (g x)) → IfSome a IsPart → IfSome (function_value f a) IsSuch
both_such IsSuch IsPart (Some g) (Some x) whole part = whole x part
both_such IsSuch IsPart None a whole part = tt
both_such IsSuch IsPart (Some g) None whole part = tt

-- one option after others
option_after : {A B : Type 0} {IsPart : A → Type 0} {IsSuch : B → Type 0} → LawfulOptions A IsPart → LawfulOptions (A → B) (λ g. (x : A) → IsPart x → IsSuch (g x)) → LawfulOptions B IsSuch
option_after {A} {B} {IsPart} {IsSuch} (a, second) (f, first) = (
  f ⊛ a,
  record {
    are_declared = λ name here. in_option_names name (by_part name here);
    once = λ values b e name here. once values (both_there (f.gives values) (a.gives values) b e) name (by_part name here);
    same = λ v w e. ap₂ function_value (first.same v w e) (second.same v w e);
    such = λ values. both_such IsSuch IsPart (f.gives values) (a.gives values) (first.such values) (second.such values);
  },
)
  where
    by_part : (name : Text) → has_name (f.names ++ a.names) name ≡ true → (has_name f.names name ≡ true) ⊎ (has_name a.names name ≡ true)
    by_part name here = or_cases _ _ (sym (list_any-append (λ n. pointwise nat_eq name n) f.names a.names) ∙ here)

    in_option_names : (name : Text) → (has_name f.names name ≡ true) ⊎ (has_name a.names name ≡ true) → has_name option_names name ≡ true
    in_option_names name (inl here) = first.are_declared name here
    in_option_names name (inr here) = second.are_declared name here

    once : (values : Values) → IsThere (f.gives values) × IsThere (a.gives values) → (name : Text)
        → (has_name f.names name ≡ true) ⊎ (has_name a.names name ≡ true) → Once (values name)
    once values there name (inl here) = first.once values there.0.0 there.0.1 name here
    once values there name (inr here) = second.once values there.1.0 there.1.1 name here

-- ---- the options of each command

abbrev until : LawfulOptions ℕ (IsFrom 0 STOP_MAX)
until = lawful_number (codes "until") 0 STOP_MAX refl

abbrev seed : LawfulOptions ℕ (IsFrom 0 (2 ^ 64 - 1))
seed = lawful_number (codes "seed") 0 (2 ^ 64 - 1) refl

abbrev events : LawfulOptions ℕ (IsFrom 1 EVENTS_MAX)
events = lawful_number (codes "events") 1 EVENTS_MAX refl

abbrev runs : LawfulOptions ℕ (IsFrom 1 RUNS_MAX)
runs = lawful_number (codes "runs") 1 RUNS_MAX refl

abbrev vertices : LawfulOptions ℕ (IsFrom 1 VERTICES_MADE_MAX)
vertices = lawful_number (codes "vertices") 1 VERTICES_MADE_MAX refl

abbrev room : LawfulOptions ℕ (IsFrom 0 ROOM_MAX)
room = lawful_usual (codes "room") ROOM_USUAL _ _ refl (λ values. besides_lies 0 ROOM_USUAL ROOM_MAX values (omega arith, omega arith))

anything : {A : Type 0} (o : Option A) → IfSome o (λ a. Unit {0})
anything (Some a) = tt
anything None = tt

abbrev start : LawfulOptions (List ℤ) (λ starts. Unit {0})
start = lawful_usual (codes "start") [] starting_values _ refl (λ values. anything _)

abbrev stride : LawfulOptions ℕ (IsFrom 1 (2 ^ 64 - 1))
stride = lawful_usual (codes "stride") 1 _ _ refl (λ values. besides_lies 1 1 (2 ^ 64 - 1) values (omega arith, omega arith))

-- what a job asks for keeps its limits
abbrev pub Keeps : Job → Type 0
Keeps job = KeepsLimits (reading_of job)

bare : (job : Job) → Keeps job → IsLawful (no_options job) Keeps
unfolding lawful_without
bare job keeps = (lawful_without Keeps job keeps).1

abbrev run : LawfulOptions Job Keeps
run = option_after room (option_after start (option_after events (option_after seed (option_after until (lawful_without _ jobs.Run (λ _ soon _ _ _ within_budget _ _ _ _. (soon.1, within_budget.1)))))))

abbrev replicate : LawfulOptions Job Keeps
replicate = option_after stride (option_after start (option_after runs (option_after events (option_after seed (option_after until (lawful_without _ jobs.Replicate (λ _ soon _ _ _ within_budget _ many _ _ _ apart. (soon.1, within_budget.1, many.0, many.1, apart.0, omega (arith, apart.1)))))))))

abbrev save : LawfulOptions Job Keeps
save = option_after start (option_after events (option_after seed (option_after until (lawful_without _ jobs.Save (λ _ soon seed wide _ within_budget _ _. (soon.1, omega (arith, wide.1), within_budget.1))))))

abbrev compare : LawfulOptions Job Keeps
compare = option_after runs (option_after start (option_after events (option_after seed (option_after until (lawful_without _ jobs.Compare (λ _ soon seed wide _ within_budget _ _ _ many. (soon.1, omega (arith, wide.1), within_budget.1, many.0, many.1)))))))

abbrev resume : LawfulOptions Job Keeps
resume = option_after room (option_after events (option_after until (lawful_without _ jobs.Resume (λ _ soon _ within_budget _ roomy. (soon.1, within_budget.1, roomy.1)))))

abbrev trial : LawfulOptions Job Keeps
trial = option_after events (option_after until (option_after vertices (option_after seed (lawful_without _ jobs.Trial (λ _ _ _ made _ soon _ within_budget. (made.0, made.1, soon.1, within_budget.1))))))

commands_lawful : AllByRecursion (λ command. IsLawful command.1 Keeps) commands
unfolding option_after lawful_without lawful_number lawful_usual
commands_lawful = (
  bare jobs.Check tt,
  (
    bare jobs.Print tt,
    (
      bare jobs.Reduce tt,
      (
        bare jobs.Certify tt,
        (
          bare jobs.Uses tt,
          (
            bare jobs.Conflicts tt,
            (
              bare jobs.Fuse tt,
              (
                bare jobs.Narrow tt,
                (
                  bare jobs.Describe tt,
                  (run.1, (replicate.1, (compare.1, (save.1, (resume.1, (trial.1, tt)))))),
                ),
              ),
            ),
          ),
        ),
      ),
    ),
  ),
)

-- what is so of the options of each command is so of those of the one that a word names
abbrev named : Text → List (Text × OptionsFor Job) → Option (OptionsFor Job)
named word table = option_map (λ command. command.1) (find (λ command. pointwise nat_eq word command.0) table)

named_lawful : (word : Text) (table : List (Text × OptionsFor Job)) → AllByRecursion (λ command. IsLawful command.1 Keeps) table → IfSome (named word table) (λ options. IsLawful options Keeps)
named_lawful word [] each = tt
named_lawful word (command ∷ table) each = by (pointwise nat_eq word command.0) (named_lawful word table each.1)
  where
    by : (b : Bool) → IfSome (named word table) (λ options. IsLawful options Keeps)
        → IfSome (option_map (λ c. c.1) (cond b (Some command) (find (λ c. pointwise nat_eq word c.0) table))) (λ options. IsLawful options Keeps)
    by true rest = each.0
    by false rest = rest

pub options_lawful : (word : Text) → IfSome (options_of word) (λ options. IsLawful options Keeps)
options_lawful word = named_lawful word commands commands_lawful

-- no option is given twice
given_once : (options : OptionsFor Job) (given : Arguments) (job : Job) (name : Text) → IsLawful options Keeps → has_only_options options.names given ≡ true
    → options.gives (λ name. values_of name given) ≡ Some job → Once (values_of name given)
given_once options given job name lawful only e = go (has_name options.names name) refl
  where
    go : (b : Bool) → has_name options.names name ≡ b → Once (values_of name given)
    go true here = lawful.once (λ name. values_of name given) job e name here
    go false none = subst Once (sym (not_given options.names name given only none)) (omega arith)

-- ---- arguments that ask for a job join

pub record Asks (given : Arguments) (job : Job) : Type 0 where
  pub word : Text
  pub options : OptionsFor Job
  pub named : options_of word ≡ Some options
  pub one : length (command_words given) ≡ 1
  pub only : has_only_options options.names given ≡ true
  pub asked : options.gives (λ name. values_of name given) ≡ Some job

pub asks : (given : Arguments) (job : Job) → job_asked given (option_and_then options_of (only_word (command_words given))) ≡ Some job → Asks given job
asks given job e = by_words (command_words given) refl e
  where
    with_options : (word : Text) (options : OptionsFor Job) (b : Bool) → options_of word ≡ Some options → length (command_words given) ≡ 1 → has_only_options options.names given ≡ b
        → cond b (options.gives (λ name. values_of name given)) None ≡ Some job → Asks given job
    with_options word options true named one only is = record { word = word; options = options; named = named; one = one; only = only; asked = is }
    with_options word options false named one only is = absurd (let wrong : None ≡ Some job = is in cc)

    with_word : (word : Text) (o : Option (OptionsFor Job)) → options_of word ≡ o → length (command_words given) ≡ 1 → job_asked given o ≡ Some job → Asks given job
    with_word word None named one is = absurd (let wrong : None ≡ Some job = is in cc)
    with_word word (Some options) named one is = with_options word options (has_only_options options.names given) named one refl is

    by_words : (words : List Text) → command_words given ≡ words → job_asked given (option_and_then options_of (only_word words)) ≡ Some job → Asks given job
    by_words [] same is = absurd (let wrong : None ≡ Some job = is in cc)
    by_words (word ∷ []) same is = with_word word (options_of word) refl (ap length same) is
    by_words (word ∷ other ∷ words) same is = absurd (let wrong : None ≡ Some job = is in cc)

lawful_asked : (given : Arguments) (job : Job) (asked : Asks given job) → IsLawful asked.options Keeps
lawful_asked given job asked = subst (λ o. IfSome o (λ options. IsLawful options Keeps)) asked.named (options_lawful asked.word)

pub asks_fits : (given : Arguments) (job : Job) → Asks given job → fits option_names [] given ≡ true
asks_fits given job asked = fit-fits option_names refl given [] (record {
  declared_options = wider option_names asked.options.names given lawful.are_declared asked.only;
  once = λ name here. given_once asked.options given job name lawful asked.only asked.asked;
  new = λ name here wrong. absurd (cc wrong);
  no_other = λ wrong. absurd (cc wrong);
  needed = λ _. asked.one;
})
  where
    lawful : IsLawful asked.options Keeps
    lawful = lawful_asked given job asked

pub job_in_limits : (words : List Text) (job : Job) → job_of words ≡ Some job → KeepsLimits (reading_of job)
job_in_limits words job e =
    let asked = asks (arguments_of words) job e in
    subst (λ o. IfSome o Keeps) asked.asked ((lawful_asked (arguments_of words) job asked).such (λ name. values_of name (arguments_of words)))
