use Rattle.command_words.proofs.JobOptions.{job_in_limits}
use Rattle.command_words.proofs.limits_law.jobs_keep_their_limits.Goals as goal

pub returns : goal.returns
returns c = λ words job asked. job_in_limits words job asked
