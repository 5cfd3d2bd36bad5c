-- Marks by passes are of what is entailed.
use Rattle.std.proofs.Common.{length}
use Rattle.model_core.specs.Rules.Needed.{needed_at_once, needed_beside, needed_marks}
use Rattle.mark_laws.proofs.EntailedMarks.{entailed-marked, entailed_marks-entailed, entailed_marks-hold}
use Rattle.var_slicing.proofs.law.marks_are_of_needed_variables.Goals as goal

pub returns : goal.returns
returns c = λ g variable.
    let count = length g.variables in
    let first = needed_at_once g in
    let pairs = needed_beside g in
    (entailed_marks-entailed count first pairs variable, λ needed. entailed-marked count first pairs (needed_marks g) (entailed_marks-hold count first pairs) needed)
