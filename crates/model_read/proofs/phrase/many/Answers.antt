-- Nothing was read before.
use Rattle.model_core.specs.Text.Format.{Many}
use Rattle.text_laws.specs.LanguageReader.{language_reader}
use Rattle.text_laws.proofs.ReadLoop.{front-none}
use Rattle.model_read.proofs.phrase.many.Goals as goal

pub returns : goal.returns
returns g c = rw (front-none (language_reader (Many g.T.Phrase.format) c.args.cursor.now)) at (rw c.new.ensures at c.and_more.ensures)
