-- A word that isn't UTF-8 is one of the words, and at the end no byte is left.
use Rattle.std.proofs.Common.{map, string_bytes, vec_items, sym}
use Rattle.std.proofs.lemmas.Bool.{eqb-true}
use Rattle.std.proofs.lemmas.List.{nil_from_length}
use Rattle.std.proofs.lemmas.Result.{err_from_is_err_and}
use Rattle.sigma_page.specs.PageWords.{ended_words}
use Rattle.sigma_page.proofs.WordsCut.{words_done, wrong_word_counts}
use Rattle.sigma_page.proofs.word_list.words_of.Goals as goal

pub returns-in_err-word-clause-missing : goal.returns-in_err-word-clause-missing
returns-in_err-word-clause-missing c =
    let p = err_from_is_err_and c.from_residual.result c.from_residual.ensures.1 in
    rw (p.1, p.2) (wrong_word_counts c.in_err-word.field-0.0 _ _ _ _ _ c.in_err-word.ensures.missing c.loop-rest.invariant c.first_word.ensures.words)

pub returns-clause-words : goal.returns-clause-words
returns-clause-words c =
    words_done (map string_bytes (vec_items c.loop-rest.words)) (ended_words c.args.bytes.now) c.loop-rest.rest.now
    (nil_from_length c.loop-rest.rest.now (eqb-true _ _ (sym c.loop-rest-test.ensures))) c.loop-rest.invariant
