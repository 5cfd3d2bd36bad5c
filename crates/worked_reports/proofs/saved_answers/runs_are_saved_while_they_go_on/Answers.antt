use Rattle.std.proofs.Common.{refl}
use Rattle.std.specs.Fmt.{digits}
use Rattle.rand_pcg.specs.Lcg.{state_after}
use Rattle.worked_reports.proofs.saved_answers.runs_are_saved_while_they_go_on.Goals as goal

pub returns-clause-document : goal.returns-clause-document
unfolding digits state_after
returns-clause-document c = refl

pub returns-clause-with_words_taken : goal.returns-clause-with_words_taken
unfolding digits state_after
returns-clause-with_words_taken c = refl

pub returns-clause-start_before : goal.returns-clause-start_before
unfolding digits state_after
returns-clause-start_before c = refl
