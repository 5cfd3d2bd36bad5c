use Rattle.model_core.specs.Rules.Entailed.{entailed_marks}
use Rattle.mark_laws.proofs.EntailedMarks.{entailed-marked, entailed_marks-entailed, entailed_marks-hold}
use Rattle.marked_walks.proofs.law.marks_are_of_entailed_places.Goals as goal

pub returns : goal.returns
returns c = λ count first pairs k. (entailed_marks-entailed count first pairs k, entailed-marked count first pairs (entailed_marks count first pairs) (entailed_marks-hold count first pairs))
