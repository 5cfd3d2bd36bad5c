use Rattle.command_words.specs.Readings.{reading_of}
use Rattle.answer_laws.proofs.OneAnswer.{ComplaintLaws, DocumentLaws, PairLaws, SavedLaws, has_answer, one_answer}
use Rattle.answer_laws.proofs.answer_law.answers_are_determined.Goals as goal

pub returns : goal.returns
returns c =
    let texts = c.texts_have_one_complaint.ensures in
    let complaints : ComplaintLaws = record { one = texts.one; none = texts.none; some = texts.some } in
    let of_documents = c.documents_have_one_complaint.ensures in
    let documents : DocumentLaws = record { one = of_documents.one; none = of_documents.none; one_reading = of_documents.one_reading; some = of_documents.some } in
    let of_pairs = c.pairs_have_one_complaint.ensures in
    let pairs : PairLaws = record { one = of_pairs.one; none = of_pairs.none; one_reading = of_pairs.one_reading; some = of_pairs.some; valid = of_pairs.valid } in
    let of_saved = c.saved_documents_have_one_complaint.ensures in
    let saved : SavedLaws = record { one = of_saved.one; none = of_saved.none; one_reading = of_saved.one_reading; some = of_saved.some } in
    let laws = c.answers_keep_their_laws.ensures in
    record {
      answer = λ job text a b x y. one_answer complaints documents pairs saved text c.texts_read_as_one_model.ensures (reading_of job) (laws (reading_of job)) a b x y;
      has_answer = λ job text asked. has_answer complaints documents pairs saved text (reading_of job) (laws (reading_of job)) asked;
      model = c.texts_read_as_one_model.ensures;
      applications = λ g a b h k x y. c.strategies_are_determined.ensures.applications g h k a b x y;
      reduced = λ g a b h k x y. c.strategies_are_determined.ensures.reduced g h k a b x y;
    }
