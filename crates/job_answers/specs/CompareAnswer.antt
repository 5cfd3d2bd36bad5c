-- What `compare` answers for two models: that they differ in what they declare; or that they mean the same, where they have one
-- normal form; or that they differ in a run of each; or else that nothing is known.
use Rattle.std.specs.Prelude.{◌≡◌, ℕ, zero, suc, ◌+◌, Bool, true, false, List, ◌++◌, codes, decimal, Option, Some, None}
use Rattle.command_words.specs.declared.compare_options.CompareOptions.{CompareOptions}
use Rattle.model_core.specs.EventGraph.{EventGraph}
use Rattle.normal_form.specs.OneForm.{NormalForms, equal_but_names}
use Rattle.model_pairs.specs.declared.line_pair.LinePair.{LinePair}
use Rattle.model_pairs.specs.declared.lines_apart.LinesApart.{LinesApart}
use Rattle.model_pairs.specs.DeclaredApart.{declared_apart}
use Rattle.model_pairs.specs.RunsApart.{runs_apart}
use Rattle.answer_delivery.specs.declared.answer.Answer.{Answer}
use Rattle.answer_delivery.specs.declared.answer.Answer.TheVariants.{Given}
use Rattle.answer_delivery.specs.declared.status.End.TheVariants as ends
use Rattle.job_answers.specs.ReplicateAnswer.{seed_of_run}
use Rattle.job_answers.specs.RunAnswer.{refused_or}
use Rattle.job_answers.specs.StartingValues.{start_refusal}

-- a line of each model, each with its line feed
abbrev pub both_lines : List ℕ → List ℕ → List ℕ
both_lines first second = codes "first " ++ first ++ codes "second " ++ second

-- the models declare these lines apart
abbrev pub declared_text : LinePair → List ℕ
declared_text lines = codes "differs\ndeclared\n" ++ both_lines lines.first lines.second

-- the runs of this number, with this seed, differ in these lines
abbrev pub run_text : ℕ → ℕ → LinesApart → List ℕ
run_text number seed lines =
    codes "differs\nrun " ++ decimal number ++ codes " seed " ++ decimal seed ++ codes " line " ++ decimal lines.line ++ codes "\n"
    ++ both_lines lines.first lines.second

-- nothing is known
abbrev pub unknown_text : List ℕ
unknown_text = codes "unknown\n"

-- what the runs of a number show, if anything, and else what later ones show
abbrev pub run_or : ℕ → ℕ → Option LinesApart → Answer → Answer
run_or number seed (Some lines) later = Given ends.Differs (run_text number seed lines)
run_or number seed None later = later

-- what so many runs show, from this number on: the first of them that differ
abbrev pub answer_of_runs : EventGraph → EventGraph → CompareOptions → ℕ → ℕ → Answer
answer_of_runs g h o number zero = Given ends.Unknown unknown_text
answer_of_runs g h o number (suc n) =
    let seed = seed_of_run o.seed 1 number in
    run_or number seed (runs_apart g h seed o.until o.events o.starts) (answer_of_runs g h o (number + 1) n)

-- what is declared apart, if anything, and else what the runs show
abbrev pub declared_or : Option LinePair → Answer → Answer
declared_or (Some lines) later = Given ends.Differs (declared_text lines)
declared_or None later = later

-- the models mean the same
abbrev pub same_text : List ℕ
same_text = codes "same\n"

-- that the models mean the same, where their forms are equal but for names, and else what the runs show
abbrev pub same_or : Bool → Answer → Answer
same_or true later = Given ends.Done same_text
same_or false later = later

-- what `compare` answers for two models with these normal forms, and starting values that the first model takes
abbrev pub comparing_answer : EventGraph → EventGraph → EventGraph → EventGraph → CompareOptions → Answer
comparing_answer g h one other o = declared_or (declared_apart g h) (same_or (equal_but_names one other) (answer_of_runs g h o 1 o.runs))

-- what `compare` answers for two models with these normal forms
abbrev pub compare_answer : EventGraph → EventGraph → EventGraph → EventGraph → CompareOptions → Answer
compare_answer g h one other o = refused_or (start_refusal g o.starts) (comparing_answer g h one other o)

-- the answer is this one for the normal forms of two models
abbrev pub OfForms : (g h : EventGraph) → (EventGraph → EventGraph → Answer) → Answer → Type 0
OfForms g h answer a = (forms : NormalForms g h) × (a ≡ answer forms.first forms.second)

-- what `compare` answers for two models
abbrev pub Compares : EventGraph → EventGraph → CompareOptions → Answer → Type 0
Compares g h o = OfForms g h (λ one other. compare_answer g h one other o)
