use Rattle.model_core.specs.Code.Views.{graph_of}
use Rattle.job_answers.proofs.commands.ResumeLaws.{resume_delivered}
use Rattle.job_answers.proofs.commands.resume.resume_over.Goals as goal

-- a valid model can be run
pub resume-requires-clause-possible : goal.resume-requires-clause-possible
resume-requires-clause-possible g c =
    let kept = (c.validity_is_by_parts.ensures.by_parts (graph_of c.args.model.now)).0 c.requires.valid in
    c.kept_models_can_be_run.ensures (graph_of c.args.model.now) kept.0 kept.1

pub resume-requires-clause-watch : goal.resume-requires-clause-watch
resume-requires-clause-watch g c = ((c.validity_is_by_parts.ensures.by_parts (graph_of c.args.model.now)).0 c.requires.valid).0.parts.watch

pub returns : goal.returns
returns g c =
    resume_delivered g.K.Sink.seen c.args.model.now c.args.snapshot.now c.args.options.now c.in-Ok.resumed.run c.in-Ok.resumed.tracer c.write_history_from.result c.args.output.now c.write_history_from.new.output c.requires.allowed c.in-Ok.ensures c.write_history_from.ensures
