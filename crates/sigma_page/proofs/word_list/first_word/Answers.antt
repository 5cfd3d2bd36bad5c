-- The first word ends at the first 0, or is all that there is.
use Rattle.std.proofs.Common.{◌-◌, ◌+◌, ◌∷◌, length, take, drop, sym, ap, ◌∙◌, arith}
use Rattle.std.proofs.lemmas.List.{length-drop, take_all}
use Rattle.sigma_page.specs.PageWords.{ended_words}
use Rattle.sigma_page.proofs.WordsCut.{first_word_ends, last_word_is_all, no_word_past}
use Rattle.sigma_page.proofs.word_list.first_word.Goals as goal

pub returns-in-Some-clause-words : goal.returns-in-Some-clause-words
returns-in-Some-clause-words c =
    let bytes = c.args.bytes.now in
    let end = c.in-Some.end in
    let found = c.in-Some.ensures in
    first_word_ends bytes end found.0.high found.1 (λ k below. found.0.before k (omega arith) below)
    ∙ ap (λ rest. take end bytes ∷ ended_words rest) (sym (take_all (length bytes - (end + 1)) (drop (end + 1) bytes) (omega (arith, length-drop (end + 1) bytes))))

pub returns-in-None-clause-words : goal.returns-in-None-clause-words
returns-in-None-clause-words c =
    let bytes = c.args.bytes.now in
    last_word_is_all bytes c.requires (λ k below. c.in-None.ensures k (omega arith) below)
    ∙ ap (λ rest. bytes ∷ rest) (sym (no_word_past bytes (length bytes - length bytes)))
