use Rattle.std.proofs.Common.{rules, ◌≡◌, None, Some, cond, sym, ap, ◌∙◌, refl}
use Rattle.watch_trace.proofs.AddedTexts.{stays_failed, waits}
use Rattle.watch_trace.proofs.line.put_head.Goals.{then-line-via-then-line, then-line-via-else-line+then-is_ok}
use Rattle.watch_trace.proofs.line.put_head.Goals as goal

pub returns-then-line : goal.returns-then-line
returns-then-line g c = elim c.then-line.branch [
  | then-line-via-then-line w ↦ stays_failed _ _ _ (search rules) (search rules)
  | then-line-via-else-line+then-is_ok w ↦ waits _ _ _ c.line.inside.bytes.items (search rules) (search rules) refl refl refl
]

pub returns : goal.returns
returns g c =
    let waited = c.line.inside.bytes.items in
    let same : c.add_head.new.bytes.items ≡ waited = search rules in
    rw (sym c.line.view_is ∙ ap (λ b. cond b None (Some waited)) c.if-line.false) (rw (same, c.if-line.false) at c.put_head_apart.ensures)
