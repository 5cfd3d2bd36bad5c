-- One vertex more.
use Rattle.std.proofs.Common.{◌∙◌, ◌++◌, ◌∷◌, [], List, map, sym, ap, ap₂}
use Rattle.std.proofs.lemmas.List.{map-append}
use Rattle.sig_base.proofs.Lists.{seen_more}
use Rattle.model_core.specs.Code.Views.{vertex_of}
use Rattle.merge_rules.specs.declared.kept_pairs.KeptPair.{KeptPair}
use Rattle.merge_rules.specs.Inner.PairMoves.{fresh_pair}
use Rattle.merge_rules.proofs.kept_pairs.fresh_pairs.Goals as goal

pub loop-vertex-preserved : goal.loop-vertex-preserved
loop-vertex-preserved c =
    let vertices = c.args.vertices.now in
    c.in_ok-push.ensures.items
    ∙ ap₂ (λ (pairs : List KeptPair) (pair : KeptPair). pairs ++ pair ∷ []) c.loop-vertex.invariant c.fresh_pair.ensures
    ∙ sym (ap (map fresh_pair) (seen_more vertex_of vertices c.loop-vertex.vertex-index c.vertex-item.result c.loop-vertex-test.true c.vertex-item.is) ∙ map-append fresh_pair _ (vertex_of c.vertex-item.result ∷ []))
