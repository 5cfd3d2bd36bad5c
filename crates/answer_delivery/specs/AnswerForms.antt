-- The forms of an answer that is given, or that refuses a text, and the line of one over the limit.
use Rattle.std.specs.Prelude.{◌≡◌, ℕ, List, codes}
use Rattle.answer_delivery.specs.declared.answer.Answer.{Answer}
use Rattle.answer_delivery.specs.declared.answer.Answer.TheVariants.{Given, Refused}
use Rattle.answer_delivery.specs.declared.status.End.TheVariants as ends
use Rattle.answer_delivery.specs.declared.status.Refusal.TheVariants as refusals

-- the job is done, and these bytes are written
abbrev pub done : List ℕ → Answer
done bytes = Given ends.Done bytes

-- the job is done, and its bytes are such
abbrev pub IsDone : (List ℕ → Type 0) → Answer → Type 0
IsDone AreWritten a = (out : List ℕ) × AreWritten out × (a ≡ done out)

-- the text is refused, and this line says why
abbrev pub refused : List ℕ → Answer
refused line = Refused refusals.Refused line

-- the line of a text over the limit
abbrev pub too_long : List ℕ
too_long = codes "sigma: text too long\n"
