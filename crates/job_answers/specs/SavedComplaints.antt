-- Why a document doesn't read as a model and a saved run of it: what there is to complain of, at which byte. The grammar of
-- both parts comes before the static rules of the model, and these before what makes a snapshot good.
use Rattle.std.specs.Prelude.{◌≡◌, ℕ, List, Some, Ok, Err}
use Rattle.model_core.specs.declared.static_kind.StaticKind.{StaticKind}
use Rattle.model_core.specs.EventGraph.{EventGraph}
use Rattle.model_core.specs.Text.Lexing.{Lexeme, tokens_of}
use Rattle.model_core.specs.Text.Written.{WrittenModel}
use Rattle.model_core.specs.Text.DocumentText.{BeginsWithModel}
use Rattle.model_core.specs.Text.SnapshotGrammar.{WrittenSnapshot, IsNoSnapshotAt}
use Rattle.model_core.specs.Text.SavedDocument.{SpellsSaved}
use Rattle.model_core.specs.Static.ModelFaults.{IsFirstFault, Accepted}
use Rattle.model_core.specs.Saved.GoodSnapshots.{bad_at}
use Rattle.answer_delivery.specs.declared.complaint.Complaint.{Complaint}
use Rattle.answer_delivery.specs.declared.complaint.Complaint.TheVariants as complaints
use Rattle.job_answers.specs.DocumentComplaints.{IsFrontComplaint}

-- The complaint about the tokens of a saved document is that about the first of its two parts that isn't spelled.
pub data IsSavedGrammarComplaint (text : List ℕ) (tokens : List Lexeme) (what : Complaint) (at : ℕ) : Type 0 where
  in_model : IsFrontComplaint text tokens what at → IsSavedGrammarComplaint text tokens what at
  in_snapshot : (model : WrittenModel) (left : List Lexeme) → BeginsWithModel tokens model left → what ≡ complaints.Unexpected → IsNoSnapshotAt text left at → IsSavedGrammarComplaint text tokens what at

-- The complaint about a saved document, at this byte: its first byte that begins no token; or else the complaint of its
-- grammar; or else the static fault of its model; or else the first part of its snapshot that is bad.
pub data IsSavedComplaint (text : List ℕ) (what : Complaint) (at : ℕ) : Type 0 where
  of_saved_bytes : what ≡ complaints.BadByte → tokens_of text ≡ Err at → IsSavedComplaint text what at
  of_saved_tokens : (tokens : List Lexeme) → tokens_of text ≡ Ok tokens → IsSavedGrammarComplaint text tokens what at → IsSavedComplaint text what at
  of_model : (model : WrittenModel) (snapshot : WrittenSnapshot) → SpellsSaved text model snapshot → (kind : StaticKind) → what ≡ complaints.Static kind → IsFirstFault model kind at → IsSavedComplaint text what at
  of_snapshot : (model : WrittenModel) (snapshot : WrittenSnapshot) → SpellsSaved text model snapshot → (g : EventGraph) → Accepted model g → what ≡ complaints.BadSnapshot → bad_at g snapshot ≡ Some at → IsSavedComplaint text what at
