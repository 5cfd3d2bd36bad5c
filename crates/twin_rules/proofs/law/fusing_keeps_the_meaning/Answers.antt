use Rattle.twin_rules.proofs.AlikeVertices.{conditions_say}
use Rattle.twin_rules.proofs.FusedRuns.{fused-Same}
use Rattle.twin_rules.proofs.ValidFused.{fused-rules, fused-spellable}
use Rattle.model_core.specs.Rules.Fuse.{fused}
use Rattle.twin_rules.proofs.law.fusing_keeps_the_meaning.Goals as goal

pub returns-clause-valid : goal.returns-clause-valid
returns-clause-valid c = λ g keep gone valid none.
    let parts = (c.validity_is_by_parts.ensures.by_parts g).0 valid in
    let are = conditions_say g keep gone none in
    (c.validity_is_by_parts.ensures.by_parts (fused g keep gone)).1 (fused-rules g keep gone are.alike are.short parts.0, fused-spellable g keep gone are.alike parts.1)

pub returns-clause-same : goal.returns-clause-same
returns-clause-same c = λ g keep gone valid none. fused-Same g keep gone (conditions_say g keep gone none).alike
