use Rattle.run_laws.proofs.Reaching.{looks_go_on, going_is_reached}
use Rattle.run_laws.proofs.runs_continued.runs_go_on.Goals as goal

pub returns-clause-onward : goal.returns-clause-onward
returns-clause-onward c = looks_go_on

pub returns-clause-going : goal.returns-clause-going
returns-clause-going c = going_is_reached
