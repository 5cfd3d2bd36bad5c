-- The others are left.
use Rattle.model_read.proofs.FirstToken.{others_in_text}
use Rattle.model_read.proofs.cursor.Cursor.number.Goals as goal

pub invariant_of-self : goal.invariant_of-self
invariant_of-self c = others_in_text c.self.inside.text.now c.self.inside.tokens.now c.self.invariant
