-- No call was made: memory was refused, or a word isn't UTF-8.
use Rattle.std.proofs.Common.{◌≡◌, ℕ, List, refl, subst}
use Rattle.answer_delivery.specs.FailureStatus.{status_of_failure}
use Rattle.answer_delivery.specs.Statuses.{exit_status_of}
use Rattle.sigma_page.specs.PageCall.{IsLaid}
use Rattle.sigma_page.proofs.CallLaws.{failure_laid}
use Rattle.sigma_page.proofs.page_call.sigma_page.Goals as goal

pub returns-in-Err : goal.returns-in-Err
returns-in-Err c =
    let laid = c.lay-lengths-in-Err in
    let is : c.from-in-Err.result ≡ exit_status_of (status_of_failure c.in-Err.failure) = cc (c.from-in-Err.ensures, c.number-in-Err.ensures, c.status.ensures) in
    failure_laid c.args.words.now c.args.input.now c.from-in-Err.result (record { output = 0; errors = laid.result }) c.args.output.now laid.new.room
    c.in-Err.failure c.in-Err.ensures.missing is refl (subst (λ (bytes : List ℕ). IsLaid bytes laid.result laid.new.room) c.line.ensures laid.ensures)
