use Rattle.command_words.specs.Readings.{reading_of}
use Rattle.answer_laws.proofs.OneAnswer.{ComplaintLaws, DocumentLaws, PairLaws, SavedLaws}
use Rattle.answer_laws.proofs.WhatIsRefused.{refused_is_unreadable, complaint_is_unread, document_complaint_is_unread, pair_complaint_is_unread, saved_complaint_is_unread, refused_over}
use Rattle.answer_laws.proofs.answer_law.unreadable_texts_are_refused.Goals as goal

pub returns : goal.returns
returns c =
    let texts = c.texts_have_one_complaint.ensures in
    let complaints : ComplaintLaws = record { one = texts.one; none = texts.none; some = texts.some } in
    let of_documents = c.documents_have_one_complaint.ensures in
    let documents : DocumentLaws = record { one = of_documents.one; none = of_documents.none; one_reading = of_documents.one_reading; some = of_documents.some } in
    let of_pairs = c.pairs_have_one_complaint.ensures in
    let pairs : PairLaws = record { one = of_pairs.one; none = of_pairs.none; one_reading = of_pairs.one_reading; some = of_pairs.some; valid = of_pairs.valid } in
    let of_saved = c.saved_documents_have_one_complaint.ensures in
    let saved : SavedLaws = record { one = of_saved.one; none = of_saved.none; one_reading = of_saved.one_reading; some = of_saved.some } in
    let laws = c.answers_keep_their_laws.ensures in
    record {
      refused = λ job text a answers. refused_is_unreadable complaints documents pairs saved text (reading_of job) (laws (reading_of job)) a answers;
      complaint = λ text short. complaint_is_unread complaints documents pairs saved text short;
      document_complaint = λ text short. document_complaint_is_unread complaints documents pairs saved text short;
      pair_complaint = λ text short. pair_complaint_is_unread complaints documents pairs saved text short;
      saved_complaint = λ text short. saved_complaint_is_unread complaints documents pairs saved text short;
      too_long = λ job text over. refused_over (reading_of job) text over;
    }
