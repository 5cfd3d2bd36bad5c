-- What `certify` answers for a document, whether its certificate holds between its two models, and what that is for.
use Rattle.std.specs.Prelude.{ℕ, List, ◌++◌, codes, decimal}
use Rattle.model_core.specs.EventGraph.{EventGraph}
use Rattle.model_core.specs.Rules.Reduction.{RuleApplication, Chain}
use Rattle.model_core.specs.Rules.Verdict.{Verdict, Sound, Rejected, Differs}
use Rattle.model_core.specs.Run.Same.{Same}
use Rattle.model_core.specs.Static.Reading.{ReadsDocument}
use Rattle.answer_delivery.specs.declared.answer.Answer.{Answer}
use Rattle.answer_delivery.specs.declared.answer.Answer.TheVariants.{Given}
use Rattle.answer_delivery.specs.declared.status.End.TheVariants as ends

-- the certificate holds; or it is rejected at the line of its first bad application, counted from 1; or its applications
-- lead to another model
abbrev pub answer_of_verdict : Verdict → Answer
answer_of_verdict Sound = Given ends.Done (codes "sound\n")
answer_of_verdict (Rejected line) = Given ends.Rejected (codes "rejected " ++ decimal line ++ codes "\n")
answer_of_verdict Differs = Given ends.Rejected (codes "differs\n")

-- The applications lead from the first model of the document to the second, and the two mean the same.
pub record Certifies (text : List ℕ) : Type 0 where
  pub original : EventGraph
  pub applications : List RuleApplication
  pub reduced : EventGraph
  pub reads : ReadsDocument text original applications reduced
  pub chain : Chain original applications reduced
  pub same : Same original reduced
