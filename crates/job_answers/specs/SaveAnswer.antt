-- What `save` answers for a model: a document of the model and its run after so many events, where the run then goes on; or
-- why there is none.
use Rattle.std.specs.Prelude.{ℕ, nat_le, if◌then◌else◌, List, [], ◌++◌, length, codes, Option}
use Rattle.std.specs.Option.{option_map_or}
use Rattle.sig_base.specs.declared.limits.TheConstants.{DOCUMENT_MAX}
use Rattle.command_words.specs.declared.save_options.SaveOptions.{SaveOptions}
use Rattle.model_core.specs.EventGraph.{EventGraph}
use Rattle.model_core.specs.Run.Machine.{RunStatus, Going, Reached}
use Rattle.model_core.specs.Run.History.{Moment, start, look, reached_from}
use Rattle.model_core.specs.Text.Canonical.{canonical}
use Rattle.model_core.specs.Text.SnapshotText.{snapshot_text}
use Rattle.model_core.specs.Saved.SavedRun.{SavedRun, saved}
use Rattle.answer_delivery.specs.declared.answer.Answer.{Answer}
use Rattle.answer_delivery.specs.declared.answer.Answer.TheVariants.{Refused}
use Rattle.answer_delivery.specs.declared.status.Refusal.TheVariants as refusals
use Rattle.answer_delivery.specs.AnswerForms.{done}
use Rattle.job_answers.specs.RunAnswer.{refused_or}
use Rattle.job_answers.specs.StartingValues.{start_refusal}

-- the line for a run that doesn't go on, so that nothing is left to resume
abbrev pub run_finished : List ℕ
run_finished = codes "sigma: run finished\n"

-- the line for a document that `resume` wouldn't read
abbrev pub snapshot_too_long : List ℕ
snapshot_too_long = codes "sigma: snapshot too long\n"

-- the canonical text of the model, followed by that of the saved run
abbrev pub saved_document : EventGraph → SavedRun → List ℕ
saved_document g s = canonical g ++ snapshot_text g s

-- the document of the moment that is reached after so many events; a run that goes on reaches one
abbrev pub document_reached : EventGraph → ℕ → ℕ → Option (Reached Moment) → List ℕ
document_reached g seed events reached = option_map_or (λ r. saved_document g (saved seed events r.moment)) reached []

-- the document, where it isn't longer than a document may be
abbrev pub unless_too_long : List ℕ → Answer
unless_too_long document = if nat_le (length document) DOCUMENT_MAX then done document else Refused refusals.TooLarge snapshot_too_long

-- the answer, where the run goes on
abbrev pub unless_finished : RunStatus → Answer → Answer
unless_finished Going answer = answer
unless_finished other answer = Refused refusals.Finished run_finished

-- what `save` answers of a run that begins
abbrev pub saving_answer : EventGraph → SaveOptions → Answer
saving_answer g o =
    unless_finished (look g o.seed o.starts o.until o.events).standing
    (unless_too_long (document_reached g o.seed o.events (reached_from g o.seed o.until o.events (start g o.starts))))

-- what `save` answers for a model
abbrev pub save_answer : EventGraph → SaveOptions → Answer
save_answer g o = refused_or (start_refusal g o.starts) (saving_answer g o)
