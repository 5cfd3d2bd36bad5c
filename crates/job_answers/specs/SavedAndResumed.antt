-- What `save` is for: what it writes reads back, and what `resume` writes of that goes on as the whole run does.
use Rattle.std.specs.Prelude.{◌≡◌, ℕ, ◌+◌, ◌≤◌, List, Some}
use Rattle.sig_base.specs.declared.limits.TheConstants.{EVENTS_MAX}
use Rattle.command_words.specs.declared.reading.SavedJob.TheVariants.{Resume}
use Rattle.command_words.specs.declared.save_options.SaveOptions.{SaveOptions}
use Rattle.model_core.specs.EventGraph.{EventGraph}
use Rattle.model_core.specs.Run.History.{Moment, start, look, reached_from}
use Rattle.model_core.specs.Static.Reading.{Reads}
use Rattle.model_core.specs.Text.HistoryText.{history_text}
use Rattle.model_core.specs.Saved.SavedRun.{SavedRun, saved, history_from}
use Rattle.model_core.specs.Saved.Resuming.{Resumes}
use Rattle.answer_delivery.specs.declared.answer.Answer.{Answer}
use Rattle.job_answers.specs.Answers.{AnswersSaved}
use Rattle.job_answers.specs.RunAnswer.{answer_of_look}
use Rattle.job_answers.specs.SaveAnswer.{saved_document}
use Rattle.job_answers.specs.SavedReading.{ReadsSaved}

-- What `resume` answers for this model and saved run, up to a stop time that isn't before the clock and for no more events
-- than a run can have, is the history of the saved run from there on.
abbrev pub IsResumed : EventGraph → SavedRun → Type 0
IsResumed g s = (until more room : ℕ) → s.clock ≤ until → s.events + more ≤ EVENTS_MAX → (a : Answer)
    → AnswersSaved (Resume (record { until = until; events = more; room = room })) g s a → a ≡ answer_of_look g until more (history_from g s until more)

-- What is written for the text is the document of its model and of the moment that its run reaches after so many events. It
-- reads back as these. What the saved run shows from there on, after the notes so far, is what the whole run shows; and it is
-- what `resume` answers for the model and the saved run as which the document reads back.
pub record SavesTheRun (text document : List ℕ) (o : SaveOptions) : Type 0 where
  pub model : EventGraph
  pub reads : Reads text model
  pub here : Moment
  pub reaches : reached_from model o.seed o.until o.events (start model o.starts) ≡ Some (record { notes = (look model o.seed o.starts o.until o.events).history; moment = here })
  pub early : here.now.clock ≤ o.until
  pub written : document ≡ saved_document model (saved o.seed o.events here)
  pub reads_back : ReadsSaved document model (saved o.seed o.events here)
  pub goes_on : Resumes model o.seed o.starts o.until o.events here
  pub resumed : IsResumed model (saved o.seed o.events here)

-- Of a document that `save` wrote, the history of its run from there on is written, up to a stop time that isn't before the
-- clock and for so many further events, of which there are in all no more than a run can have.
abbrev pub WritesTheRest : ℕ → ℕ → (List ℕ → Type 0) → List ℕ → Type 0
WritesTheRest until more IsWritten document = (text : List ℕ) (o : SaveOptions) (saves : SavesTheRun text document o) → saves.here.now.clock ≤ until → o.events + more ≤ EVENTS_MAX
    → IsWritten (history_text saves.model until more (history_from saves.model (saved o.seed o.events saves.here) until more))
