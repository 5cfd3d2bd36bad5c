-- What each answer of `compare` means for the two models that were read.
use Rattle.std.specs.Prelude.{◌≡◌, ◌≤◌, ℕ, List, Some, None}
use Rattle.command_words.specs.declared.compare_options.CompareOptions.{CompareOptions}
use Rattle.model_core.specs.EventGraph.{EventGraph}
use Rattle.model_core.specs.Run.Machine.{Look}
use Rattle.model_core.specs.Run.History.{look}
use Rattle.alike_laws.specs.AreAlike.{AreAlike}
use Rattle.alike_laws.specs.LooksApart.{LooksApart}
use Rattle.model_pairs.specs.declared.line_pair.LinePair.{LinePair}
use Rattle.model_pairs.specs.declared.lines_apart.LinesApart.{LinesApart}
use Rattle.model_pairs.specs.DeclaredApart.{declared_apart}
use Rattle.model_pairs.specs.RunsApart.{runs_apart}
use Rattle.job_answers.specs.CompareAnswer.{declared_text, run_text, same_text, unknown_text}
use Rattle.job_answers.specs.PairReading.{ReadsPair}
use Rattle.job_answers.specs.ReplicateAnswer.{seed_of_run}

-- the look at the run of a number
abbrev pub look_of_run : EventGraph → CompareOptions → ℕ → Look
look_of_run g o number = look g (seed_of_run o.seed 1 number) o.starts o.until o.events

-- the two models were found to mean the same
pub record FoundSame (text bytes : List ℕ) : Type 0 where
  pub first : EventGraph
  pub second : EventGraph
  pub reads : ReadsPair text first second
  pub written : bytes ≡ same_text
  pub alike : AreAlike first second

-- What shows that two models differ: lines that they declare; or the run of a number of each, and the first lines that differ of
-- their histories
pub data ShownApart (g h : EventGraph) (o : CompareOptions) (bytes : List ℕ) : Type 0 where
  in_declarations : (lines : LinePair) → declared_apart g h ≡ Some lines → bytes ≡ declared_text lines → ShownApart g h o bytes
  in_runs : (number : ℕ) → 1 ≤ number → number ≤ o.runs → LooksApart (look_of_run g o number) (look_of_run h o number)
      → (lines : LinesApart) → runs_apart g h (seed_of_run o.seed 1 number) o.until o.events o.starts ≡ Some lines
      → bytes ≡ run_text number (seed_of_run o.seed 1 number) lines → ShownApart g h o bytes

-- the two models were found to differ, so they don't mean the same
pub record FoundApart (o : CompareOptions) (text bytes : List ℕ) : Type 0 where
  pub first : EventGraph
  pub second : EventGraph
  pub reads : ReadsPair text first second
  pub shown : ShownApart first second o bytes
  pub not_alike : ¬ AreAlike first second

-- nothing was found: no run shows a difference
pub record FoundNothing (o : CompareOptions) (text bytes : List ℕ) : Type 0 where
  pub first : EventGraph
  pub second : EventGraph
  pub reads : ReadsPair text first second
  pub written : bytes ≡ unknown_text
  pub none_apart : (number : ℕ) → 1 ≤ number → number ≤ o.runs → runs_apart first second (seed_of_run o.seed 1 number) o.until o.events o.starts ≡ None
