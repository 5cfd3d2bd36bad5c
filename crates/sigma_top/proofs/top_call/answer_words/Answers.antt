-- The text that was taken is answered, is over the limit, or could not be taken.
use Rattle.std.proofs.Common.{Ok, Err, sym, ap, ◌∙◌, subst}
use Rattle.std.specs.Prelude.{map}
use Rattle.std.specs.String.{string_bytes}
use Rattle.command_words.specs.declared.reading.Reading.{Reading}
use Rattle.command_words.specs.KeptLimits.{KeepsLimits}
use Rattle.sigma_top.specs.declared.text_taking.TakenText.TheVariants as taken
use Rattle.job_answers.specs.Answers.{Responds, MayStopShort}
use Rattle.answer_delivery.specs.Delivery.{DeliversSome}
use Rattle.sigma_top.proofs.Performing.{input_answered, long_input_refused, input_not_taken, taken_within_limit}
use Rattle.sigma_top.proofs.TopCall.{answer_of_job}
use Rattle.sigma_top.proofs.top_call.answer_words.Goals as goal

pub returns-in-Ok-Whole : goal.returns-in-Ok-Whole
returns-in-Ok-Whole g c =
    let reading = c.reading-reading.result in
    let i = c.args.input.now in
    let j = c.take_text.new.input in
    let o = c.args.output.now in
    let p = c.answer_text.new.output in
    answer_of_job g.S.Source.seen g.K.Sink.seen (map string_bytes c.args.words.now) i j o p c.in-Ok.job c.in-Ok.ensures.ok reading c.reading-reading.ensures c.answer_text.result
    (input_answered g.S.Source.seen g.K.Sink.seen reading i j o p (c.answers_keep_their_laws.ensures reading) c.in-Ok-Whole.text
    (taken_within_limit g.S.Source.seen reading i j c.limit.result c.take_text.result (Ok (taken.Whole c.in-Ok-Whole.text)) c.limit.ensures (c.in-Ok-Whole.is ∙ ap (λ t. Ok t) c.in-Ok-Whole.field-0-is) c.take_text.ensures)
    c.answer_text.result
    (subst (λ t. DeliversSome g.K.Sink.seen (Responds reading t) (MayStopShort reading t) c.answer_text.result o p) c.as_slice.ensures c.answer_text.ensures))

pub returns-in-Ok-TooLong : goal.returns-in-Ok-TooLong
returns-in-Ok-TooLong g c =
    let reading = c.reading-reading.result in
    let i = c.args.input.now in
    let j = c.take_text.new.input in
    let o = c.args.output.now in
    let p = c.deliver.new.output in
    answer_of_job g.S.Source.seen g.K.Sink.seen (map string_bytes c.args.words.now) i j o p c.in-Ok.job c.in-Ok.ensures.ok reading c.reading-reading.ensures c.deliver.result
    (long_input_refused g.S.Source.seen g.K.Sink.seen reading i j o p
    (taken_within_limit g.S.Source.seen reading i j c.limit.result c.take_text.result (Ok taken.TooLong) c.limit.ensures (c.in-Ok-TooLong.is ∙ ap (λ t. Ok t) c.in-Ok-TooLong.field-0-is) c.take_text.ensures)
    c.too_long_answer.result c.deliver.result c.too_long_answer.ensures c.deliver.ensures)

pub returns : goal.returns
returns g c =
    let reading = c.reading-reading.result in
    let i = c.args.input.now in
    let j = c.take_text.new.input in
    let o = c.args.output.now in
    answer_of_job g.S.Source.seen g.K.Sink.seen (map string_bytes c.args.words.now) i j o o c.in-Ok.job c.in-Ok.ensures.ok reading c.reading-reading.ensures (Err c.in-Err.failure)
    (input_not_taken g.S.Source.seen g.K.Sink.seen reading i j o c.in-Err.failure
    (taken_within_limit g.S.Source.seen reading i j c.limit.result c.take_text.result (Err c.in-Err.failure) c.limit.ensures c.in-Err.is c.take_text.ensures))

pub answer_text-requires-clause-limits : goal.answer_text-requires-clause-limits
answer_text-requires-clause-limits g c = subst (λ (r : Reading). KeepsLimits r) (sym c.reading-reading.ensures) c.in-Ok.ensures.within
