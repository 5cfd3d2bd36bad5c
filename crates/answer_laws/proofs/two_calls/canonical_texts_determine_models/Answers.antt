use Rattle.answer_laws.proofs.TextsApart.{TextFacts, alone_tells, certified_tells}
use Rattle.answer_laws.proofs.two_calls.canonical_texts_determine_models.Goals as goal

pub returns : goal.returns
returns c =
    let readings = c.texts_have_one_reading.ensures in
    let back = c.canonical_texts_read_back.ensures.read_back in
    let facts : TextFacts = record { spells = λ g spellable reads_back. let whole = back g spellable reads_back in (whole.0, whole.1, whole.2); one_reading = readings.one_model; one_front = readings.one_front } in
    record {
      alone = alone_tells facts;
      certified = certified_tells facts;
    }
