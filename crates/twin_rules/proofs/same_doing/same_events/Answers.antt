-- What says the same is one answer.
use Rattle.std.proofs.Common.{map, ap₂, ◌&&◌, sym, ◌∙◌}
use Rattle.std.specs.Bool.{one_answer}
use lib.Pointwise.{bytes_decides}
use Rattle.model_core.specs.Code.Views.{change_of}
use Rattle.twin_rules.proofs.AlikeVertices.{changes_decided}
use Rattle.twin_rules.proofs.same_doing.same_events.Goals as goal

pub returns-then-same_places : goal.returns-then-same_places
returns-then-same_places c =
    let a = c.args.a.now in
    let b = c.args.b.now in
    ap₂ (λ p q. p && q) (sym c.if-same_places.true ∙ one_answer _ _ c.same_places.ensures (bytes_decides a.params b.params))
    (one_answer _ _ c.same_changes.ensures (changes_decided (map change_of a.changes) (map change_of b.changes)))
