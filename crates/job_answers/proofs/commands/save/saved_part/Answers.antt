use Rattle.std.proofs.Common.{ap}
use Rattle.job_answers.proofs.commands.SaveLaws.{is_saved}
use Rattle.job_answers.proofs.commands.save.saved_part.Goals as goal

-- the run goes on, and what it came to is saved
pub returns-in_ok-save-in-Budget : goal.returns-in_ok-save-in-Budget
returns-in_ok-save-in-Budget g c =
    let o = c.args.options.now in
    is_saved c.args.model.now o.until o.seed o.events c.requires.begun.0 o.starts c.args.run c.in_ok-tracer.tracer c.requires.begun.1 (ap (λ t. t.noted) c.in_ok-tracer.ensures) c.observe-outcome.new.run c.observe-outcome.new.tracer
    c.in-Budget.ensures.takes.rest c.in_ok-save-in-Budget.field-0 c.in-Budget.ensures.takes.completes c.in-Budget.ensures.leads c.in_ok-save-in-Budget.ensures
