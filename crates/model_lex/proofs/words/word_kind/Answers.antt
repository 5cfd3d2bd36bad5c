-- The words with the first letter are enough.
use Rattle.std.proofs.Common.{◌∙◌, sym, refl, slice_index}
use Rattle.model_lex.proofs.ReservedWords.{word_among-first}
use Rattle.model_lex.proofs.words.word_kind.Goals as goal

pub returns : goal.returns
returns c = c.kind_with.ensures ∙ sym (word_among-first (slice_index c.args.word.now 0) c.args.word.now c.requires refl)
