use Rattle.std.proofs.Common.{◌≡◌, ℕ, List, [], refl, sym, subst}
use Rattle.std.specs.Prelude.{Some}
use Rattle.std.proofs.lemmas.Option.{same_Some}
use Rattle.sig_base.specs.Sink.{GrowsBy}
use Rattle.model_core.specs.Ranges.Narrowed.{IsNarrowed}
use Rattle.model_core.specs.Rules.Fuse.{Fused}
use Rattle.job_answers.specs.ReduceAnswer.{KeepsMeaning}
use Rattle.job_answers.specs.RewrittenAnswer.{RewritesTheSame}
use Rattle.job_answers.specs.SavedAndResumed.{SavesTheRun}
use Rattle.sigma_top.specs.Promises.{PrintsModel}
use Rattle.sigma_tests.proofs.promises.promises_are_of_what_is_written.Goals as goal

-- an output that had nothing has what it grew by
all_of_it : (out piece : List ℕ) → GrowsBy (Some []) (Some out) piece → out ≡ piece
all_of_it out piece grows = same_Some out piece grows

-- what is such is what was written
of_the_output : (IsSuch : List ℕ → Type 0) (out : List ℕ) → (piece : List ℕ) × IsSuch piece × GrowsBy (Some []) (Some out) piece → IsSuch out
of_the_output IsSuch out (piece, is, grows) = subst IsSuch (sym (all_of_it out piece grows)) is

pub returns-clause-printed : goal.returns-clause-printed
returns-clause-printed c = λ text out kept. of_the_output (PrintsModel text) out (kept.printed refl refl)

pub returns-clause-reduced : goal.returns-clause-reduced
returns-clause-reduced c = λ text out kept. of_the_output (KeepsMeaning text) out (kept.reduced refl refl)

pub returns-clause-fused : goal.returns-clause-fused
returns-clause-fused c = λ text out kept. of_the_output (RewritesTheSame Fused text) out (kept.fused refl refl)

pub returns-clause-narrowed : goal.returns-clause-narrowed
returns-clause-narrowed c = λ text out kept. of_the_output (RewritesTheSame IsNarrowed text) out (kept.narrowed refl refl)

pub returns-clause-saved : goal.returns-clause-saved
returns-clause-saved c = λ text out kept.
    of_the_output (λ document. SavesTheRun text document (record { until = 10; seed = 0; events = 5; starts = [] })) out
    (kept.saved (record { until = 10; seed = 0; events = 5; starts = [] }) refl refl)

pub returns-clause-resumed : goal.returns-clause-resumed
returns-clause-resumed c = λ text document out o saves early few kept.
    all_of_it out _ (kept.resumed (record { until = 10; events = 5; room = 4096 }) refl (λ e. cc) (λ e. cc) (λ e. cc) text o saves early few)

pub returns-clause-resumed_up_to_a_fault : goal.returns-clause-resumed_up_to_a_fault
returns-clause-resumed_up_to_a_fault c = λ text document out o saves early few kept.
    all_of_it out _ (kept.resumed (record { until = 10; events = 5; room = 4096 }) refl (λ e. cc) (λ e. cc) (λ e. cc) text o saves early few)

pub returns-clause-resumed_up_to_a_budget : goal.returns-clause-resumed_up_to_a_budget
returns-clause-resumed_up_to_a_budget c = λ text document out o saves early few kept.
    all_of_it out _ (kept.resumed (record { until = 10; events = 5; room = 4096 }) refl (λ e. cc) (λ e. cc) (λ e. cc) text o saves early few)

pub returns-clause-certified : goal.returns-clause-certified
returns-clause-certified c = λ text out kept. kept.certified refl refl

pub returns-clause-of_an_answer : goal.returns-clause-of_an_answer
returns-clause-of_an_answer c = λ text out status (a, answers, is, grows). (a, answers, is, all_of_it out _ grows)
