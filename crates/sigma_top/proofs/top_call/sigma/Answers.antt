use Rattle.std.proofs.Common.{map}
use Rattle.std.specs.String.{string_bytes}
use Rattle.sigma_top.proofs.TopCall.{reported_ends, writes_nothing, promises_kept, complete, reduces_what_reads}
use Rattle.sigma_top.proofs.Comparing.{comparisons_kept}
use Rattle.sigma_top.proofs.top_call.sigma.Goals as goal

pub returns-clause-ends : goal.returns-clause-ends
returns-clause-ends g c =
    reported_ends g.S.Source.seen g.K.Sink.seen g.E.Sink.seen (map string_bytes c.args.words.now) c.args.input.now c.answer_words-answered.new.input c.args.output.now c.answer_words-answered.new.output c.args.errors.now c.report.new.errors c.answer_words-answered.result c.report.result c.answer_words-answered.ensures c.report.ensures

pub returns-clause-complete : goal.returns-clause-complete
returns-clause-complete g c = λ job asked read wrote.
    complete g.S.Source.seen g.K.Sink.seen g.E.Sink.seen (map string_bytes c.args.words.now) c.args.input.now c.answer_words-answered.new.input c.args.output.now c.answer_words-answered.new.output c.args.errors.now c.report.new.errors
    job asked read wrote c.report.result (reported_ends g.S.Source.seen g.K.Sink.seen g.E.Sink.seen (map string_bytes c.args.words.now) c.args.input.now c.answer_words-answered.new.input c.args.output.now c.answer_words-answered.new.output c.args.errors.now c.report.new.errors c.answer_words-answered.result c.report.result c.answer_words-answered.ensures c.report.ensures)

pub returns-clause-always_reduced : goal.returns-clause-always_reduced
returns-clause-always_reduced g c = λ asked read wrote.
    reduces_what_reads g.S.Source.seen g.K.Sink.seen g.E.Sink.seen (map string_bytes c.args.words.now) c.args.input.now c.answer_words-answered.new.input c.args.output.now c.answer_words-answered.new.output c.args.errors.now c.report.new.errors
    c.readable_models_are_reduced.ensures asked read wrote c.report.result (reported_ends g.S.Source.seen g.K.Sink.seen g.E.Sink.seen (map string_bytes c.args.words.now) c.args.input.now c.answer_words-answered.new.input c.args.output.now c.answer_words-answered.new.output c.args.errors.now c.report.new.errors c.answer_words-answered.result c.report.result c.answer_words-answered.ensures c.report.ensures)

pub returns-clause-writes_nothing : goal.returns-clause-writes_nothing
returns-clause-writes_nothing g c = λ job asked is_short.
    writes_nothing g.S.Source.seen g.K.Sink.seen g.E.Sink.seen (map string_bytes c.args.words.now) c.args.input.now c.answer_words-answered.new.input c.args.output.now c.answer_words-answered.new.output c.args.errors.now c.report.new.errors
    job asked c.report.result (reported_ends g.S.Source.seen g.K.Sink.seen g.E.Sink.seen (map string_bytes c.args.words.now) c.args.input.now c.answer_words-answered.new.input c.args.output.now c.answer_words-answered.new.output c.args.errors.now c.report.new.errors c.answer_words-answered.result c.report.result c.answer_words-answered.ensures c.report.ensures) is_short

pub returns-clause-promises : goal.returns-clause-promises
returns-clause-promises g c =
    promises_kept g.S.Source.seen g.K.Sink.seen g.E.Sink.seen (map string_bytes c.args.words.now) c.args.input.now c.answer_words-answered.new.input c.args.output.now c.answer_words-answered.new.output c.args.errors.now c.report.new.errors
    c.written_models_mean_the_same.ensures c.fused_models_mean_the_same.ensures c.narrower_models_mean_the_same.ensures
    c.saved_runs_are_resumed.ensures c.read_runs_are_answered.ensures (c.jobs_keep_their_limits.ensures (map string_bytes c.args.words.now)) c.sound_documents_mean_the_same.ensures
    c.report.result (reported_ends g.S.Source.seen g.K.Sink.seen g.E.Sink.seen (map string_bytes c.args.words.now) c.args.input.now c.answer_words-answered.new.input c.args.output.now c.answer_words-answered.new.output c.args.errors.now c.report.new.errors c.answer_words-answered.result c.report.result c.answer_words-answered.ensures c.report.ensures)

pub returns-clause-compared : goal.returns-clause-compared
returns-clause-compared g c =
    comparisons_kept g.S.Source.seen g.K.Sink.seen g.E.Sink.seen (map string_bytes c.args.words.now) c.args.input.now c.answer_words-answered.new.input c.args.output.now c.answer_words-answered.new.output c.args.errors.now c.report.new.errors
    c.compared_models_are_as_answered.ensures.same c.compared_models_are_as_answered.ensures.apart c.compared_models_are_as_answered.ensures.nothing (c.jobs_keep_their_limits.ensures (map string_bytes c.args.words.now))
    c.report.result (reported_ends g.S.Source.seen g.K.Sink.seen g.E.Sink.seen (map string_bytes c.args.words.now) c.args.input.now c.answer_words-answered.new.input c.args.output.now c.answer_words-answered.new.output c.args.errors.now c.report.new.errors c.answer_words-answered.result c.report.result c.answer_words-answered.ensures c.report.ensures)
