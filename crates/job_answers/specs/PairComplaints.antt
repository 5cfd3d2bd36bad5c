-- Why a document doesn't read as two models: what there is to complain of, at which byte. The grammar of both texts comes before
-- the static rules of the first model, and these before those of the second.
use Rattle.std.specs.Prelude.{◌≡◌, ℕ, List, ◌∷◌, Ok, Err}
use Rattle.model_core.specs.declared.static_kind.StaticKind.{StaticKind}
use Rattle.model_core.specs.EventGraph.{EventGraph}
use Rattle.model_core.specs.Text.Lexing.{Lexeme, tokens_of}
use Rattle.model_core.specs.Text.Written.{WrittenModel}
use Rattle.model_core.specs.Text.DocumentText.{BeginsWithModel}
use Rattle.model_core.specs.Static.ModelFaults.{IsFirstFault, Accepted}
use Rattle.answer_delivery.specs.declared.complaint.Complaint.{Complaint}
use Rattle.answer_delivery.specs.declared.complaint.Complaint.TheVariants as complaints
use Rattle.job_answers.specs.DocumentComplaints.{IsFrontComplaint}
use Rattle.job_answers.specs.PairReading.{SpellsPair}

-- The complaint about the tokens of two texts is that about the first of them that isn't spelled; or else that a token is left.
pub data IsPairGrammarComplaint (text : List ℕ) (tokens : List Lexeme) (what : Complaint) (at : ℕ) : Type 0 where
  in_first_text : IsFrontComplaint text tokens what at → IsPairGrammarComplaint text tokens what at
  in_second_text : (first : WrittenModel) (left : List Lexeme) → BeginsWithModel tokens first left → IsFrontComplaint text left what at → IsPairGrammarComplaint text tokens what at
  behind_both : (first second : WrittenModel) (left : List Lexeme) (token : Lexeme) (rest : List Lexeme) → BeginsWithModel tokens first left → BeginsWithModel left second (token ∷ rest) → what ≡ complaints.Unexpected → at ≡ token.from → IsPairGrammarComplaint text tokens what at

-- The complaint about a document of two texts, at this byte: its first byte that begins no token; or else the complaint of its
-- grammar; or else the static fault of its first model; or else that of its second.
pub data IsPairComplaint (text : List ℕ) (what : Complaint) (at : ℕ) : Type 0 where
  of_pair_bytes : what ≡ complaints.BadByte → tokens_of text ≡ Err at → IsPairComplaint text what at
  of_pair_tokens : (tokens : List Lexeme) → tokens_of text ≡ Ok tokens → IsPairGrammarComplaint text tokens what at → IsPairComplaint text what at
  of_first_model : (first second : WrittenModel) → SpellsPair text first second → (kind : StaticKind) → what ≡ complaints.Static kind → IsFirstFault first kind at → IsPairComplaint text what at
  of_second_model : (first second : WrittenModel) → SpellsPair text first second → (g : EventGraph) → Accepted first g → (kind : StaticKind) → what ≡ complaints.Static kind → IsFirstFault second kind at → IsPairComplaint text what at
