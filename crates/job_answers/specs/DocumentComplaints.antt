-- Why a document doesn't read as two models and a certificate: what there is to complain of, at which byte. Its parts are
-- tried one after the other, the grammar of all of them before the static rules of the first model, and these before those
-- of the second.
use Rattle.std.specs.Prelude.{◌≡◌, ℕ, List, Some, None, Ok, Err}
use Rattle.sig_base.specs.declared.limits.TheConstants.{OPENINGS_MAX}
use Rattle.model_core.specs.declared.static_kind.StaticKind.{StaticKind}
use Rattle.model_core.specs.EventGraph.{EventGraph}
use Rattle.model_core.specs.Rules.Reduction.{RuleApplication}
use Rattle.model_core.specs.Text.Lexing.{Lexeme, tokens_of}
use Rattle.model_core.specs.Text.Written.{WrittenModel}
use Rattle.model_core.specs.Text.FirstWrong.{IsUnexpectedAt}
use Rattle.model_core.specs.Text.Openings.{front_to_end, too_deep_at}
use Rattle.model_core.specs.Text.CertificateText.{IsNoCertificateAt}
use Rattle.model_core.specs.Text.DocumentText.{BeginsWithModel, SpellsDocument}
use Rattle.model_core.specs.Static.ModelFaults.{IsFirstFault, Accepted}
use Rattle.answer_delivery.specs.declared.complaint.Complaint.{Complaint}
use Rattle.answer_delivery.specs.declared.complaint.Complaint.TheVariants as complaints

-- The complaint where tokens don't begin with a model text, which goes up to their first word `end`: the first opening too
-- many there; or else the place at which these stop to begin one.
abbrev pub IsFrontComplaint : List ℕ → List Lexeme → Complaint → ℕ → Type 0
IsFrontComplaint text tokens complaints.TooDeep at = too_deep_at OPENINGS_MAX (front_to_end tokens) ≡ Some at
IsFrontComplaint text tokens complaints.Unexpected at = (too_deep_at OPENINGS_MAX (front_to_end tokens) ≡ None) × IsUnexpectedAt text (front_to_end tokens) at
IsFrontComplaint text tokens what at = ⊥

-- The complaint about the tokens of a document is that about the first of its parts that isn't spelled.
pub data IsGrammarComplaint (text : List ℕ) (tokens : List Lexeme) (what : Complaint) (at : ℕ) : Type 0 where
  in_first : IsFrontComplaint text tokens what at → IsGrammarComplaint text tokens what at
  in_second : (first : WrittenModel) (left : List Lexeme) → BeginsWithModel tokens first left → IsFrontComplaint text left what at → IsGrammarComplaint text tokens what at
  in_certificate : (first second : WrittenModel) (left last : List Lexeme) → BeginsWithModel tokens first left → BeginsWithModel left second last → what ≡ complaints.Unexpected → IsNoCertificateAt text last at → IsGrammarComplaint text tokens what at

-- The complaint about a document, at this byte: its first byte that begins no token; or else the complaint of its grammar;
-- or else the static fault of its first model; or else that of its second.
pub data IsDocumentComplaint (text : List ℕ) (what : Complaint) (at : ℕ) : Type 0 where
  of_bytes : what ≡ complaints.BadByte → tokens_of text ≡ Err at → IsDocumentComplaint text what at
  of_tokens : (tokens : List Lexeme) → tokens_of text ≡ Ok tokens → IsGrammarComplaint text tokens what at → IsDocumentComplaint text what at
  of_first : (first second : WrittenModel) (applications : List RuleApplication) → SpellsDocument text first applications second → (kind : StaticKind) → what ≡ complaints.Static kind → IsFirstFault first kind at → IsDocumentComplaint text what at
  of_second : (first second : WrittenModel) (applications : List RuleApplication) → SpellsDocument text first applications second → (g : EventGraph) → Accepted first g → (kind : StaticKind) → what ≡ complaints.Static kind → IsFirstFault second kind at → IsDocumentComplaint text what at
