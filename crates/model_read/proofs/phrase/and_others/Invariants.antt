use Rattle.std.proofs.Common.{◌≡◌, map, length}
use Rattle.model_core.specs.declared.token.Symbol.TheVariants.{Comma}
use Rattle.model_core.specs.Text.Format.{Many, mark, ◌*>◌}
use Rattle.text_laws.specs.LanguageReader.{language_reader}
use Rattle.text_laws.specs.FormatReader.{with_front}
use Rattle.model_read.proofs.phrase.and_others.Given as goal

abbrev pub invariant-loop-alloc : goal.invariant-loop-alloc
invariant-loop-alloc g l =
    with_front (map g.T.Phrase.plain l.all) (language_reader (Many (mark Comma *> g.T.Phrase.format)) l.cursor) ≡ with_front (map g.T.Phrase.plain l.fn.items) (language_reader (Many (mark Comma *> g.T.Phrase.format)) l.fn.cursor)

abbrev pub decreases-loop-alloc : goal.decreases-loop-alloc
decreases-loop-alloc g l = length l.cursor
