-- What can't be read: texts that read as no model, as no document, as no two models, and as no saved document. They are what is
-- refused.
use Rattle.std.specs.Prelude.{ℕ, List}
use Rattle.command_words.specs.declared.reading.Reading.{Reading}
use Rattle.command_words.specs.declared.reading.Reading.TheVariants as readings
use Rattle.model_core.specs.EventGraph.{EventGraph}
use Rattle.model_core.specs.Rules.Reduction.{RuleApplication}
use Rattle.model_core.specs.Static.Reading.{Reads, ReadsDocument}
use Rattle.model_core.specs.Saved.SavedRun.{SavedRun}
use Rattle.job_answers.specs.PairReading.{ReadsPair}
use Rattle.job_answers.specs.SavedReading.{ReadsSaved}

-- the text reads as no model
abbrev pub IsNoModel : List ℕ → Type 0
IsNoModel text = (g : EventGraph) → Reads text g → ⊥

-- the text reads as no document
abbrev pub IsNoDocument : List ℕ → Type 0
IsNoDocument text = (original : EventGraph) (applications : List RuleApplication) (reduced : EventGraph) → ReadsDocument text original applications reduced → ⊥

-- the text reads as no two models
abbrev pub IsNoPair : List ℕ → Type 0
IsNoPair text = (g h : EventGraph) → ReadsPair text g h → ⊥

-- the text reads as no saved document
abbrev pub IsNoSavedDocument : List ℕ → Type 0
IsNoSavedDocument text = (g : EventGraph) (s : SavedRun) → ReadsSaved text g s → ⊥

-- the text reads as nothing that is read; of a job that reads nothing, no text is that
abbrev pub IsUnreadable : Reading → List ℕ → Type 0
IsUnreadable (readings.Model job) text = IsNoModel text
IsUnreadable (readings.Document job) text = IsNoDocument text
IsUnreadable (readings.Pair job) text = IsNoPair text
IsUnreadable (readings.Saved job) text = IsNoSavedDocument text
IsUnreadable (readings.Nothing job) text = ⊥
