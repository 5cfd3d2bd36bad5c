-- A token of the kind comes first, or all are left.
use Rattle.std.proofs.Common.{rules}
use Rattle.model_lex.specs.declared.piece.PieceKind.TheVariants as kinds
use Rattle.model_read.proofs.FirstToken.{others_in_text, kind-comes, kind-lacks, none-lacks}
use Rattle.model_read.proofs.cursor.Cursor.take_if.Goals as goal

pub invariant_of-self : goal.invariant_of-self
invariant_of-self c = others_in_text c.self.inside.text.now c.self.inside.tokens.now c.self.invariant

pub returns-in-len1-up : goal.returns-in-len1-up
returns-in-len1-up c =
    let comes = kind-comes c.self.inside.text.now c.self.inside.tokens.now (record { from = 0; length = 0; kind = kinds.Name }) c.args.kind c.args.self.now c.in-len1-up.len_at_least (search rules) c.self.view_is in
    record { reads = comes.reads; taken = comes.taken; shorter = comes.shorter; missing = λ e. absurd (search rules); comes = comes.comes }

pub returns-in_default : goal.returns-in_default
returns-in_default c =
    let lacks = none-lacks c.self.inside.text.now c.self.inside.tokens.now c.args.kind c.args.self.now c.in_default.len_below c.self.view_is in
    record { reads = lacks.reads; taken = tt; shorter = tt; missing = λ e. (lacks.stops, search rules); comes = lacks.comes }

pub returns-in_default-2 : goal.returns-in_default-2
returns-in_default-2 c =
    let lacks = kind-lacks c.self.inside.text.now c.self.inside.tokens.now (record { from = 0; length = 0; kind = kinds.Name }) c.args.kind c.args.self.now c.in-len1-up.len_at_least (search rules) c.self.view_is in
    record { reads = lacks.reads; taken = tt; shorter = tt; missing = λ e. (lacks.stops, search rules); comes = lacks.comes }
