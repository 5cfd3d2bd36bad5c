-- The elements after it move up.
use Rattle.std.proofs.Common.{◌∙◌, ◌-◌, ap, take, rules, List}
use Rattle.std.specs.List.{remove}
use Rattle.twin_rules.specs.declared.vertex_fingerprint.VertexFingerprint.{VertexFingerprint}
use Rattle.twin_rules.proofs.PrintLists.{moved-up}
use Rattle.twin_rules.proofs.fingerprint_table.FingerprintTable.forget.Goals as goal

pub returns-then-gone-self : goal.returns-then-gone-self
returns-then-gone-self c =
    ap (take (c.self.inside.count - 1)) c.copy_within.ensures.after
    ∙ (moved-up c.self.inside.prints c.self.inside.count c.args.gone c.if-gone-self.true (search rules)
    ∙ ap (λ (ps : List VertexFingerprint). remove ps c.args.gone) c.self.view_is)
