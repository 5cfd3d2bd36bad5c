-- The first token is the name, and the others are left.
use Rattle.std.proofs.Common.{sym, ap, ◌∙◌}
use Rattle.model_core.specs.Text.Format.{any_name}
use Rattle.text_laws.specs.LanguageReader.{language_reader}
use Rattle.model_read.proofs.FirstToken.{others_in_text, name-first}
use Rattle.model_read.proofs.cursor.Cursor.spelling.Goals as goal

pub invariant_of-self : goal.invariant_of-self
invariant_of-self c = others_in_text c.self.inside.text.now c.self.inside.tokens.now c.self.invariant

pub returns-clause-reads : goal.returns-clause-reads
returns-clause-reads c =
    ap (language_reader any_name) (sym c.self.view_is)
    ∙ name-first c.self.inside.text.now c.self.inside.tokens.now _ _ c.in-len1-up.len_at_least c.in-Name.is c.bytes_of-bytes.ensures
