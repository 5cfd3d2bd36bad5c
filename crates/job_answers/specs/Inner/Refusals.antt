-- The complaint for the error at which a step of reading ends, at the same byte, or out of memory; and what complaining did.
use Rattle.std.specs.Prelude.{◌≡◌, Result, Err}
use Rattle.sig_base.specs.Sink.{Outlet}
use Rattle.model_lex.specs.declared.lex_error.LexError.{LexError}
use Rattle.model_lex.specs.declared.parse_error.ParseError.{ParseError}
use Rattle.sig_types.specs.declared.error.StaticError.{StaticError}
use Rattle.sig_types.specs.declared.error.StaticError.TheVariants as static
use Rattle.answer_delivery.specs.declared.complaint.Complaint.TheVariants as complaints
use Rattle.answer_delivery.specs.declared.delivering.DeliveryOutcome.{DeliveryOutcome}
use Rattle.answer_delivery.specs.declared.status.Failure.{Failure}
use Rattle.answer_delivery.specs.declared.status.Failure.TheVariants as failures
use Rattle.answer_delivery.specs.AnswerForms.{refused}
use Rattle.answer_delivery.specs.Complaints.{message_of, byte_line}
use Rattle.answer_delivery.specs.Delivery.{DeliversSome}
use Rattle.job_answers.specs.declared.reading_error.ReadingError.{ReadingError}
use Rattle.job_answers.specs.declared.reading_error.ReadingError.TheVariants as readings

-- of a text that isn't cut into tokens
abbrev pub lexing_complaint : LexError → ReadingError
lexing_complaint (LexError.BadByte at) = readings.At complaints.BadByte at
lexing_complaint LexError.NoMemory = readings.NoMemory

-- of tokens that aren't read
abbrev pub parsing_complaint : ParseError → ReadingError
parsing_complaint (ParseError.Unexpected at) = readings.At complaints.Unexpected at
parsing_complaint (ParseError.TooDeep at) = readings.At complaints.TooDeep at
parsing_complaint ParseError.NoMemory = readings.NoMemory

-- of a written model that isn't accepted
abbrev pub static_complaint : StaticError → ReadingError
static_complaint (static.Fault kind at) = readings.At (complaints.Static kind) at
static_complaint static.NoMemory = readings.NoMemory

-- what complaining did: the text is refused with the line of the complaint, or memory lacks
abbrev pub Complains : {K : Type 0} → (K → Outlet) → ReadingError → Result DeliveryOutcome Failure → K → K → Type 0
Complains seen (readings.At what at) r o p = DeliversSome seen (λ a. a ≡ refused (byte_line at (message_of what))) ⊥ r o p
Complains seen readings.NoMemory r o p = (r ≡ Err failures.NoMemory) × (p ≡ o)
