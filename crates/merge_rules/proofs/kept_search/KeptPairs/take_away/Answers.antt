use Rattle.std.proofs.Common.{◌<◌, ◌∙◌, [], ◌∷◌, map, sym, ap, subst, length, List, arith}
use Rattle.std.specs.List.{remove}
use Rattle.model_core.specs.EventGraph.{EventEdge}
use Rattle.model_core.specs.Rules.Drop.{dropped}
use Rattle.model_core.specs.Code.Views.{edge_of}
use Rattle.merge_rules.specs.KeptPairs.{PairsAreRight}
use Rattle.merge_rules.specs.Inner.PairMoves.{edges_taken, moved_up}
use Rattle.merge_rules.specs.declared.kept_pairs.KeptPair.{KeptPair}
use Rattle.merge_rules.proofs.PairsBetweenMerges.LedPlaces.{taken-long}
use Rattle.merge_rules.proofs.PairsBetweenMerges.PairsAfterDrop.{are-dropped}
use Rattle.merge_rules.proofs.kept_search.KeptPairs.take_away.Goals as goal

pub remove-requires : goal.remove-requires
remove-requires c =
    let long = ap length c.take_edges.ensures ∙ taken-long (map edge_of c.args.edges.now) c.self.inside.pairs.items ∙ ap length c.self.view_is in
    omega (arith, long, c.requires, c.take_edges.new.pairs.ok.0)

pub returns : goal.returns
returns c = λ g kept valid unled unwatched edges.
    let gone = c.args.gone in
    let there : gone < length g.vertices = omega (arith, c.requires, kept.long) in
    let keeps = ((c.validity_is_by_parts.ensures.by_parts g).0 valid).0.parts in
    subst (PairsAreRight (dropped g (gone ∷ [])))
    (sym (c.move_up.ensures ∙ ap (map (moved_up gone)) (c.remove.ensures.items ∙ ap (λ (ps : List KeptPair). remove ps gone) (c.take_edges.ensures ∙ ap (λ (es : List EventEdge). edges_taken es c.self.inside.pairs.items) edges))))
    (are-dropped g keeps gone there unled unwatched c.self.inside.pairs.items (subst (PairsAreRight g) (sym c.self.view_is) kept))
