-- Why a text reads as no model: what there is to complain of, at which byte, and its line.
use Rattle.std.specs.Prelude.{◌≡◌, ℕ, List, ◌++◌, codes, decimal, Some, None, Ok, Err}
use Rattle.sig_base.specs.declared.limits.TheConstants.{OPENINGS_MAX}
use Rattle.model_core.specs.declared.static_kind.StaticKind.{StaticKind}
use Rattle.model_core.specs.declared.static_kind.StaticKind.TheVariants as rules
use Rattle.model_core.specs.Text.Lexing.{Lexeme, tokens_of}
use Rattle.model_core.specs.Text.Written.{WrittenModel}
use Rattle.model_core.specs.Text.FirstWrong.{IsUnexpectedAt}
use Rattle.model_core.specs.Text.Openings.{too_deep_at}
use Rattle.model_core.specs.Text.ModelText.{SpellsText}
use Rattle.model_core.specs.Static.ModelFaults.{IsFirstFault}
use Rattle.answer_delivery.specs.declared.complaint.Complaint.{Complaint}
use Rattle.answer_delivery.specs.declared.complaint.Complaint.TheVariants as complaints

-- what a complaint says of a broken static rule
abbrev pub static_message : StaticKind → List ℕ
static_message rules.NameTooLong = codes "name too long"
static_message rules.UnknownName = codes "unknown name"
static_message rules.DuplicateName = codes "duplicate name"
static_message rules.WrongUse = codes "wrong use"
static_message rules.KindMismatch = codes "kind mismatch"
static_message rules.ValueCount = codes "value count"
static_message rules.LiteralTooLarge = codes "literal too large"
static_message rules.EmptyRange = codes "empty range"
static_message rules.InitialOutside = codes "initial outside"
static_message rules.SizeOutside = codes "size outside"
static_message rules.PriorityOutside = codes "priority outside"
static_message rules.StreamOutside = codes "stream outside"
static_message rules.DrawOutside = codes "draw outside"
static_message rules.WeightOutside = codes "weight outside"
static_message rules.VersionUnknown = codes "unknown version"
static_message rules.VersionNeeded = codes "needs version 2"
static_message rules.TooMany = codes "too many"
static_message rules.ModelTooLong = codes "model too long"

-- what the line says of a complaint
abbrev pub message_of : Complaint → List ℕ
message_of complaints.BadByte = codes "bad byte"
message_of complaints.Unexpected = codes "unexpected"
message_of complaints.TooDeep = codes "too deep"
message_of (complaints.Static kind) = static_message kind
message_of complaints.BadSnapshot = codes "bad snapshot"

-- the line with a message of a byte
abbrev pub byte_line : ℕ → List ℕ → List ℕ
byte_line at message = codes "sigma: byte " ++ decimal at ++ codes ": " ++ message ++ codes "\n"

-- This is to be complained of at this byte of the text: its first byte that begins no token; or else the first opening too
-- many; or else the place at which its tokens stop to begin a model text; or else the first static fault.
abbrev pub IsComplaint : List ℕ → Complaint → ℕ → Type 0
IsComplaint text complaints.BadByte at = tokens_of text ≡ Err at
IsComplaint text complaints.TooDeep at = (tokens : List Lexeme) × (tokens_of text ≡ Ok tokens) × (too_deep_at OPENINGS_MAX tokens ≡ Some at)
IsComplaint text complaints.Unexpected at = (tokens : List Lexeme) × (tokens_of text ≡ Ok tokens) × (too_deep_at OPENINGS_MAX tokens ≡ None) × IsUnexpectedAt text tokens at
IsComplaint text (complaints.Static kind) at = (m : WrittenModel) × SpellsText text m × IsFirstFault m kind at
IsComplaint text complaints.BadSnapshot at = ⊥
