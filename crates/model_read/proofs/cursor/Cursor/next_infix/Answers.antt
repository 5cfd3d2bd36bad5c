-- The operator is that of the first token.
use Rattle.std.proofs.Common.{sym, ap, ◌∙◌}
use Rattle.text_laws.specs.Ladder.{infix_at}
use Rattle.model_read.proofs.FirstToken.{infix-first}
use Rattle.model_read.proofs.cursor.Cursor.next_infix.Goals as goal

pub returns-in-len1-up : goal.returns-in-len1-up
returns-in-len1-up c = c.infix_of.ensures _ ∙ sym (infix-first c.self.inside.text.now c.self.inside.tokens.now _ c.in-len1-up.len_at_least) ∙ ap infix_at c.self.view_is
