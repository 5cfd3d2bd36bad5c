-- What the command on two models answers is the answer of its job.
use Rattle.std.proofs.Common.{subst, sym}
use Rattle.command_words.specs.declared.reading.PairJob.{PairJob}
use Rattle.job_answers.specs.Answers.{AnswersPair}
use Rattle.job_answers.specs.CompareAnswer.{Compares}
use Rattle.job_answers.proofs.ModelTerms.{graph_of}
use Rattle.job_answers.proofs.Streaming.{delivers_as}
use Rattle.job_answers.proofs.answering.answer_pair.Goals as goal

pub returns : goal.returns
returns g c =
    let first = graph_of c.args.pair.now.first in
    let second = graph_of c.args.pair.now.second in
    delivers_as g.K.Sink.seen (Compares first second c.comparison_of.result.now) (AnswersPair c.args.job.now first second) ⊥ c.compare.result c.args.output.now c.compare.new.output
    (λ a is. subst (λ (job : PairJob). AnswersPair job first second a) (sym c.comparison_of.ensures) is) c.compare.ensures
