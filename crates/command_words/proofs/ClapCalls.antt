-- The results of the code's calls of `clap`.
use Rattle.std.proofs.Common.{◌≡◌, ◌≢◌, ◌∙◌, true, false, List, [], ◌∷◌, refl, sym, ap, fold, inl, inr, subst, Option, Some, None, Result, Ok, Err, IfOk, IsErrOf, codes, option_and_then, option_map}
use Rattle.std.specs.List.{list_any}
use Rattle.std.proofs.lemmas.Bool.{and_parts}
use Rattle.clap.specs.Words.{App, HasKind, HasMatchesOf, Kinds, Text, fault_of, is_simple_and_free, kind_of}
use Rattle.clap.specs.declared.error.Error.{Error}
use Rattle.clap.specs.declared.error.kind.ErrorKind.TheVariants as kind
use Rattle.clap.specs.declared.parser.matches.ArgMatches.{ArgMatches}
use Rattle.command_words.specs.declared.job.Job.{Job}
use Rattle.command_words.specs.declared.words_error.WordsError.{WordsError}
use Rattle.command_words.specs.declared.words_error.WordsError.TheVariants as errors
use Rattle.command_words.specs.Jobs.{job_of}
use Rattle.command_words.specs.KeptLimits.{KeepsLimits}
use Rattle.command_words.specs.Readings.{reading_of}
use Rattle.command_words.specs.Inner.Asking.{Asked}
use Rattle.command_words.specs.Inner.ClapCommand.{clap_rows, command_line, has_one_dash, option_names, rows_in, unless}
use Rattle.command_words.specs.Inner.MatchedJobs.{matched_job}
use Rattle.command_words.proofs.ClapLaw.{clap_is_simple}
use Rattle.command_words.proofs.JobLaw.{matched_job_is}
use Rattle.command_words.proofs.JobOptions.{job_in_limits}

-- one option more
pub option_more : (with_one : App → Text → App) (before after all : App) (names rest : List Text) (name : Text) → names ≡ name ∷ rest → after ≡ with_one before name
    → fold with_one before names ≡ all → fold with_one after rest ≡ all
option_more with_one before after all names rest name more one so_far = ap (λ a. fold with_one a rest) one ∙ sym (ap (fold with_one before) more) ∙ so_far

-- an error other than out of memory is a fault
fault_there : {X : Type 0} (e : Error) (kinds : Kinds) (answer : Option X) → HasKind kinds e → kind_of e ≢ kind.OutOfMemory → None ≡ unless kinds answer
fault_there e [] answer (inl is) other = absurd (other is)
fault_there e [] answer (inr is) other = absurd is
fault_there e (k ∷ kinds) answer h other = refl

-- what `clap` takes gives its rows
pub accepted : (a : App) (words : List Text) (m : ArgMatches) → HasMatchesOf a words m → (is_simple_and_free a ≡ true → fault_of a words ≡ []) → a ≡ command_line option_names
    → option_map rows_in (Some m) ≡ clap_rows words
accepted a words m matches none is =
    let rows : HasMatchesOf (command_line option_names) words m = subst (λ (b : App). HasMatchesOf b words m) is matches in
    let no_fault : fault_of (command_line option_names) words ≡ [] = subst (λ (b : App). is_simple_and_free b ≡ true → fault_of b words ≡ []) is none clap_is_simple in
    rw no_fault (ap (λ rs. Some rs) (rows (and_parts _ _ clap_is_simple).0).0)

-- what it refuses has none, unless it is out of memory
pub refused : (a : App) (words : List Text) (e : Error) → (is_simple_and_free a ≡ true → HasKind (fault_of a words) e) → a ≡ command_line option_names
    → kind_of e ≢ kind.OutOfMemory → None ≡ clap_rows words
refused a words e kinds is other =
    fault_there e (fault_of (command_line option_names) words) _ (subst (λ (b : App). is_simple_and_free b ≡ true → HasKind (fault_of b words) e) is kinds clap_is_simple) other

-- the job that the matches ask for is that of the words
pub job_of_matches : (words named : List Text) (given found : Option ArgMatches) → false ≡ list_any has_one_dash words → named ≡ codes "sigma" ∷ words → given ≡ found → option_map rows_in given ≡ clap_rows named
    → job_of words ≡ option_and_then (λ m. matched_job (rows_in m)) found
job_of_matches words named given found no_dash is same rows =
    matched_job_is (codes "sigma") words (sym no_dash) ∙ ap (λ ws. option_and_then matched_job (clap_rows ws)) (sym is) ∙ ap (option_and_then matched_job) (sym rows)
    ∙ ap (λ o. option_and_then matched_job (option_map rows_in o)) same ∙ go found
  where
    go : (o : Option ArgMatches) → option_and_then matched_job (option_map rows_in o) ≡ option_and_then (λ m. matched_job (rows_in m)) o
    go None = refl
    go (Some m) = refl

-- what an answer says of the words
pub job_answered : (job asked : Option Job) (answer : Result Job WordsError) → job ≡ asked → Asked asked answer → IfOk answer (λ j. job ≡ Some j)
job_answered job asked (Ok j) is answered = is ∙ answered
job_answered job asked (Err e) is answered = tt

pub no_job_answered : (job asked : Option Job) (answer : Result Job WordsError) → job ≡ asked → Asked asked answer → IsErrOf answer errors.BadWords → job ≡ None
no_job_answered job asked (Ok j) is answered bad = absurd (cc bad)
no_job_answered job asked (Err errors.BadWords) is answered bad = is ∙ answered
no_job_answered job asked (Err errors.NoMemory) is answered bad = absurd (cc bad)

pub answer_within : (words : List Text) (answer : Result Job WordsError) → IfOk answer (λ j. job_of words ≡ Some j) → IfOk answer (λ j. KeepsLimits (reading_of j))
answer_within words (Ok j) is = job_in_limits words j is
answer_within words (Err e) is = tt
