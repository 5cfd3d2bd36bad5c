-- A model that declares the same takes the same starting values.
use Rattle.std.proofs.Common.{List, ℤ, Err, ap, ◌∙◌, subst}
use Rattle.std.specs.Prelude.{IsTrue}
use Rattle.model_core.specs.Code.Views.{graph_of}
use Rattle.job_answers.proofs.ModelTerms.{allowed}
use Rattle.job_answers.proofs.TakenStarts.{only_memory, second_takes}
use Rattle.job_answers.proofs.commands.compare.taken_too.Goals as goal

-- a valid model can be run
pub check_starts-requires : goal.check_starts-requires
check_starts-requires c =
    let kept = (c.validity_is_by_parts.ensures.by_parts (graph_of c.args.second.now)).0 c.requires.valid in
    c.kept_models_can_be_run.ensures (graph_of c.args.second.now) kept.0 kept.1

pub unreachable-requires : goal.unreachable-requires
unreachable-requires c =
    let first = graph_of c.args.first.now.model in
    let second = graph_of c.args.second.now in
    let taken = subst (λ (starts : List ℤ). IsTrue (allowed first starts)) c.requires.given c.model-first.ensures.takes in
    let is = only_memory second c.args.starts.now c.in-Err._error (second_takes first second (c.declared_lines_decide.ensures.none first second c.requires.declared) c.args.starts.now taken) c.in-Err.ensures.err in
    c.check_starts.ensures.asks_none (c.in-Err.is ∙ ap (λ e. Err e) is)
